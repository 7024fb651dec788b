use Rattle.std.proofs.Common.{◌≡◌, ◌≤◌, length, vec_len, vec_capacity}
use Rattle.calls.proofs.SoFar.{SoFar}
use Rattle.calls.proofs.any_bus.perform_all.Given as goal

abbrev pub invariant-loop-call : goal.invariant-loop-call
invariant-loop-call g l =
    SoFar l.calls (g.B.Bus.byte l.initial.bus) l.call-index l.answers.items (g.B.Bus.byte l.bus)
    × (g.B.Bus.layout l.bus ≡ g.B.Bus.layout l.initial.bus)
    × (vec_len l.answers ≡ l.call-index)
    × (length l.calls ≤ vec_capacity l.answers)
