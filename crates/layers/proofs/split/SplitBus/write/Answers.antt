use Rattle.std.proofs.Common.{◌≡◌, ◌%◌, ◌∷◌, ◌++◌, arith}
use Rattle.std.proofs.lemmas.Bool.Decides.{nat_tests}
use Rattle.bus.specs.Layout.{number, cells, hidden_cells}
use Rattle.bus.proofs.Accesses.{Written}
use Rattle.layers.specs.Layers.{shown_low, shown_high}
use Rattle.layers.proofs.Splitting.{low_write, high_write, low_hidden, high_hidden}
use Rattle.layers.proofs.split.SplitBus.write.Goals as goal

pub returns-then-access-self : goal.returns-then-access-self
returns-then-access-self g c =
    let s = c.args.self.now in
    let a = c.args.access in
    let v = c.args.value in
    let below = g.L.Bus.byte s.low in
    let left = g.L.Bus.byte c.write.new.self in
    let border_by_4 : s.border.0 % 4 ≡ 0 = grind (arith, nat_tests) in
    let done : Written below a.at.0 a.width v c.write.result left = record { answer = c.write.ensures.value; after = c.write.ensures.after } in
    let written = low_write s.border.0 border_by_4 below (g.R.Bus.byte s.high) a.at.0 a.width v c.write.result left (omega arith) done in
    let hidden = low_hidden s.border.0 border_by_4 below (g.R.Bus.byte s.high) a.at.0 a.width v c.write.result left (omega arith) done in
    record { value = written.answer; after = written.after; kept = λ i. number s.border.0 ∷ cells (hidden i) ∷ cells (hidden_cells (shown_high s.border.0) (g.R.Bus.byte s.high)) ∷ (c.write.ensures.kept i ++ g.R.Bus.layout s.high) }

pub returns-else-access-self : goal.returns-else-access-self
returns-else-access-self g c =
    let s = c.args.self.now in
    let a = c.args.access in
    let v = c.args.value in
    let below = g.R.Bus.byte s.high in
    let left = g.R.Bus.byte c.write-else-access-self.new.self in
    let told = c.write-else-access-self.ensures in
    let border_by_4 : s.border.0 % 4 ≡ 0 = grind (arith, nat_tests) in
    let done : Written below a.at.0 a.width v c.write-else-access-self.result left = record { answer = told.value; after = told.after } in
    let written = high_write s.border.0 border_by_4 (g.L.Bus.byte s.low) below a.at.0 a.width v c.write-else-access-self.result left (omega arith) done in
    let hidden = high_hidden s.border.0 border_by_4 (g.L.Bus.byte s.low) below a.at.0 a.width v c.write-else-access-self.result left (omega arith) done in
    record { value = written.answer; after = written.after; kept = λ i. number s.border.0 ∷ cells (hidden_cells (shown_low s.border.0) (g.L.Bus.byte s.low)) ∷ cells (hidden i) ∷ (g.L.Bus.layout s.low ++ told.kept i) }
