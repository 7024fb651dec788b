use Rattle.std.proofs.Common.{rules, ◌≡◌, Some, ◌∙◌}
use Rattle.bus.specs.Memory.{read_of}
use Rattle.bus.specs.Board.{offset_in}
use Rattle.bus.proofs.Views.{seen}
use Rattle.layers.specs.Layers.{moved_by}
use Rattle.layers.proofs.Shifting.{read_shown}
use Rattle.layers.proofs.shift.ShiftBus.read.Goals as goal

pub returns-clause-value : goal.returns-clause-value
returns-clause-value g c =
    let s = c.args.self.now in
    let a = c.args.access in
    let below = g.B.Bus.byte s.inner in
    let i = c.in_ok-inner.inner.at.0 in
    let found : Some i ≡ offset_in s.span.base.0 s.span.length a.at.0 = search rules in
    let named : c.map_err.result ≡ seen (moved_by s.span.base.0) (λ v. v) c.read.result = search rules in
    let told : c.read.result ≡ read_of below i a.width = search rules in
    named ∙ read_shown below s.span.base.0 s.span.length a.at.0 a.width i found c.read.result told
