use Rattle.std.proofs.Common.{◌≡◌, ◌%◌, ◌∷◌, ◌++◌, ap, arith}
use Rattle.std.proofs.lemmas.Bool.Decides.{nat_tests}
use Rattle.bus.specs.Layout.{number, cells, hidden_cells}
use Rattle.layers.specs.Layers.{split_cells, shown_low, shown_high}
use Rattle.layers.proofs.Splitting.{low_read, high_read}
use Rattle.layers.proofs.split.SplitBus.read.Goals as goal

pub returns-then-access-self : goal.returns-then-access-self
returns-then-access-self g c =
    let s = c.args.self.now in
    let a = c.args.access in
    let lo = g.L.Bus.byte s.low in
    let hi = g.R.Bus.byte s.high in
    let told = c.read.ensures in
    let border_by_4 : s.border.0 % 4 ≡ 0 = grind (arith, nat_tests) in
    record {
      value = low_read s.border.0 border_by_4 lo hi a.at.0 a.width (omega arith) c.read.result told.value;
      same = ap (λ m. split_cells s.border.0 m hi) told.same;
      kept = λ i. number s.border.0 ∷ cells (hidden_cells (shown_low s.border.0) (told.same i)) ∷ cells (hidden_cells (shown_high s.border.0) hi) ∷ (told.kept i ++ g.R.Bus.layout s.high);
    }

pub returns-else-access-self : goal.returns-else-access-self
returns-else-access-self g c =
    let s = c.args.self.now in
    let a = c.args.access in
    let lo = g.L.Bus.byte s.low in
    let hi = g.R.Bus.byte s.high in
    let told = c.read-else-access-self.ensures in
    let border_by_4 : s.border.0 % 4 ≡ 0 = grind (arith, nat_tests) in
    record {
      value = high_read s.border.0 border_by_4 lo hi a.at.0 a.width (omega arith) c.read-else-access-self.result told.value;
      same = ap (split_cells s.border.0 lo) told.same;
      kept = λ i. number s.border.0 ∷ cells (hidden_cells (shown_low s.border.0) lo) ∷ cells (hidden_cells (shown_high s.border.0) (told.same i)) ∷ (g.L.Bus.layout s.low ++ told.kept i);
    }
