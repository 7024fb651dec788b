use Rattle.std.proofs.Common.{◌≡◌, ◌≤◌, length, vec_len, vec_capacity}
use Rattle.machine.specs.State.{reset_state}
use Rattle.driver.proofs.SoFar.{SoFar}
use Rattle.driver.proofs.two_machines.lockstep.Given as goal

abbrev pub invariant-loop-call : goal.invariant-loop-call
invariant-loop-call g l =
    SoFar g.A.Bus.byte g.A.Bus.layout l.calls reset_state l.initial.left_bus l.call-index l.left_answers.items l.left l.left_bus
    × (vec_len l.left_answers ≡ l.call-index)
    × (length l.calls ≤ vec_capacity l.left_answers)
    × SoFar g.B.Bus.byte g.B.Bus.layout l.calls reset_state l.initial.right_bus l.call-index l.right_answers.items l.right l.right_bus
    × (vec_len l.right_answers ≡ l.call-index)
    × (length l.calls ≤ vec_capacity l.right_answers)
