-- What a call answers and leaves, and a list of calls.
use Rattle.std.specs.Prelude.{ℕ, List, [], ◌∷◌, Ok, Err, Result}
use Rattle.bus.specs.declared.refusal.Refusal.{Refusal}
use Rattle.bus.specs.Memory.{Memory, read_of, write_of, answer_of, memory_after}
use Rattle.calls.specs.declared.call.Call.{Call}
use Rattle.calls.specs.declared.call.Call.TheVariants.{Read, Write}
use Rattle.calls.specs.declared.call.Answer.{Answer}
use Rattle.calls.specs.declared.call.Answer.TheVariants as answer

abbrev pub answer_to : Memory → Call → Answer
answer_to m (Read a) = answer.Read (read_of m a.at.0 a.width)
answer_to m (Write a v) = answer.Write (answer_of (write_of m a.at.0 a.width v))

-- what the call leaves of m
abbrev pub memory_after_call : Memory → Call → Memory
memory_after_call m (Read a) = m
memory_after_call m (Write a v) = memory_after m (write_of m a.at.0 a.width v)

-- each call finds what those before it left
abbrev pub answers_to : Memory → List Call → List Answer
answers_to m [] = []
answers_to m (c ∷ cs) = answer_to m c ∷ answers_to (memory_after_call m c) cs

abbrev pub memory_through : Memory → List Call → Memory
memory_through m [] = m
memory_through m (c ∷ cs) = memory_through (memory_after_call m c) cs

-- v where a write was done, and else its refusal
abbrev pub read_back : Result (Unit {0}) Refusal → ℕ → Result ℕ Refusal
read_back (Ok _) v = Ok v
read_back (Err e) v = Err e
