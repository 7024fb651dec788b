-- How calls and answers are written.
use Rattle.std.specs.Prelude.{ℕ, List, ◌++◌, codes, Ok, Err}
use Rattle.bus.specs.Text.{number_text, access_text, refusal_text}
use Rattle.calls.specs.declared.call.Call.{Call}
use Rattle.calls.specs.declared.call.Call.TheVariants.{Read, Write}
use Rattle.calls.specs.declared.call.Answer.{Answer}
use Rattle.calls.specs.declared.call.Answer.TheVariants as answer

abbrev pub call_text : Call → List ℕ
call_text (Read a) = codes "read " ++ access_text a
call_text (Write a v) = codes "write " ++ (access_text a ++ (codes " " ++ number_text v))

abbrev pub answer_text : Answer → List ℕ
answer_text (answer.Read (Ok v)) = number_text v
answer_text (answer.Read (Err e)) = refusal_text e
answer_text (answer.Write (Ok _)) = codes "done"
answer_text (answer.Write (Err e)) = refusal_text e
