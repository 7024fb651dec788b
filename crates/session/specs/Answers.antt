-- The numbers and the values of what the lines of a set-up answer.
use Rattle.std.specs.Prelude.{ℕ, None, Option, Result}
use Rattle.bus.specs.declared.address.PhysAddr.{PhysAddr}
use Rattle.bus.specs.Refusals.{refusal_number, refusal_address}
use Rattle.machine.specs.Answers.{report_number, report_address, call_refusal_number}
use Rattle.session.specs.declared.answer.LineAnswer.{LineAnswer}
use Rattle.session.specs.declared.answer.LineAnswer.TheVariants.{Written, Ran, Register}
use Rattle.session.specs.declared.answer.LineRefusal.{LineRefusal}
use Rattle.session.specs.declared.answer.LineRefusal.TheVariants.{NoForm, OutOfPlace, Bus, Call, ListingFull}

abbrev pub LineResult : Type 0
LineResult = Result LineAnswer LineRefusal

abbrev pub line_answer_number : LineAnswer → ℕ
line_answer_number Written = 0
line_answer_number (Ran report pc) = report_number report
line_answer_number (Register number value) = 0

abbrev pub line_answer_address : LineAnswer → Option PhysAddr
line_answer_address Written = None
line_answer_address (Ran report pc) = report_address report
line_answer_address (Register number value) = None

abbrev pub line_refusal_number : LineRefusal → ℕ
line_refusal_number NoForm = 10
line_refusal_number OutOfPlace = 11
line_refusal_number (Bus e) = refusal_number e
line_refusal_number (Call e) = call_refusal_number e
line_refusal_number ListingFull = 12

abbrev pub line_refusal_address : LineRefusal → Option PhysAddr
line_refusal_address (Bus e) = refusal_address e
line_refusal_address _ = None
