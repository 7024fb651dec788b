use Rattle.std.proofs.Common.{rules, ◌≡◌, ◌∷◌, Some, ◌∙◌}
use Rattle.bus.specs.Board.{offset_in}
use Rattle.bus.specs.Layout.{number, cells}
use Rattle.bus.proofs.Accesses.{Written}
use Rattle.bus.proofs.Views.{seen}
use Rattle.layers.specs.Layers.{moved_by}
use Rattle.layers.proofs.Shifting.{written_shown, shift_hidden}
use Rattle.layers.proofs.shift.ShiftBus.write.Goals as goal

pub returns : goal.returns
returns g c =
    let s = c.args.self.now in
    let a = c.args.access in
    let i = c.in_ok-inner.inner.at.0 in
    let v = c.args.value in
    let below = g.B.Bus.byte s.inner in
    let left = g.B.Bus.byte c.write.new.self in
    let found : Some i ≡ offset_in s.span.base.0 s.span.length a.at.0 = search rules in
    let named : c.map_err.result ≡ seen (moved_by s.span.base.0) (λ u. u) c.write.result = search rules in
    let done : Written below i a.width v c.write.result left = record { answer = search rules; after = search rules } in
    let shown = written_shown below s.span.base.0 s.span.length a.at.0 a.width i found v c.write.result left done in
    let hidden = shift_hidden below s.span.base.0 s.span.length a.at.0 a.width i found v c.write.result left done in
    record {
      value = named ∙ shown.answer;
      after = shown.after;
      kept = λ i. number s.span.base.0 ∷ number s.span.length ∷ cells (hidden i) ∷ c.write.ensures.kept i;
    }
