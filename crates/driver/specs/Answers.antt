-- The number that an answer goes by.
use Rattle.std.specs.Prelude.{ℕ, Ok, Err}
use Rattle.machine.specs.Answers.{event_number, step_refusal_number, report_number, call_refusal_number}
use Rattle.driver.specs.declared.call.Answer.{Answer}
use Rattle.driver.specs.declared.call.Answer.TheVariants.{Reset, Step, Run, Pc, Register, ControlRegister, TlbEntry}

abbrev pub answer_number : Answer → ℕ
answer_number Reset = 0
answer_number (Step (Ok e)) = event_number e
answer_number (Step (Err e)) = step_refusal_number e
answer_number (Run (Ok report)) = report_number report
answer_number (Run (Err e)) = call_refusal_number e
answer_number (Pc at) = 0
answer_number (Register (Ok value)) = 0
answer_number (Register (Err e)) = call_refusal_number e
answer_number (ControlRegister (Ok value)) = 0
answer_number (ControlRegister (Err e)) = call_refusal_number e
answer_number (TlbEntry (Ok entry)) = 0
answer_number (TlbEntry (Err e)) = call_refusal_number e
