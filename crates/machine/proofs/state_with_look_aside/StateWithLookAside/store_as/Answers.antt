use Rattle.std.proofs.Common.{◌≡◌, Ok, Err, rules}
use Rattle.bus.specs.Memory.{write_of, answer_of, memory_after}
use Rattle.operations.specs.Operations.{store_width}
use Rattle.pages.specs.declared.access_kind.AccessKind.TheVariants.{Store}
use Rattle.machine.specs.Access.{locate}
use Rattle.machine.proofs.StepParts.{unstored}
use Rattle.machine.proofs.state_with_look_aside.StateWithLookAside.store_as.Goals as goal

pub returns-in-Err-write-clause-value : goal.returns-in-Err-write-clause-value
returns-in-Err-write-clause-value g c =
    let s = c.args.self.now in
    let m = g.B.Bus.byte c.args.bus.now in
    let n = g.B.Bus.byte c.write.new.self in
    let width = store_width c.args.op in
    let place = c.in-Ok.place in
    let e = c.in-Err-write.by_bus in
    let is : Ok place ≡ locate s Store width c.args.at = search rules in
    let told : Err e ≡ answer_of (write_of m place.0 width c.args.value) = search rules in
    let left : n ≡ memory_after m (write_of m place.0 width c.args.value) = search rules in
    rw (c.refusal.ensures, c.in-Ok.ensures.same) (unstored s m n c.args.op c.args.at c.args.value place e is told left)
