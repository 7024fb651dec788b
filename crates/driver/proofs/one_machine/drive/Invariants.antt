use Rattle.std.proofs.Common.{◌≡◌, ◌≤◌, length, vec_len, vec_capacity}
use Rattle.driver.proofs.SoFar.{SoFar}
use Rattle.driver.proofs.one_machine.drive.Given as goal

abbrev pub invariant-loop-call : goal.invariant-loop-call
invariant-loop-call g l =
    SoFar g.B.Bus.byte g.B.Bus.layout l.calls l.initial.core l.initial.bus l.call-index l.answers.items l.core l.bus
    × (vec_len l.answers ≡ l.call-index)
    × (length l.calls ≤ vec_capacity l.answers)
