-- The numbers and the values of what calls of the core answer.
use Rattle.std.specs.Prelude.{ℕ, Some, None, Option}
use Rattle.bus.specs.declared.address.PhysAddr.{PhysAddr}
use Rattle.bus.specs.Refusals.{refusal_number, refusal_address}
use Rattle.csr.specs.Exceptions.{ecode, esubcode}
use Rattle.machine.specs.declared.answers.Event.{Event}
use Rattle.machine.specs.declared.answers.Event.TheVariants.{Done, Waiting, Exception}
use Rattle.machine.specs.declared.answers.StepRefusal.{StepRefusal}
use Rattle.machine.specs.declared.answers.RunReport.{RunReport}
use Rattle.machine.specs.declared.answers.CallRefusal.{CallRefusal}
use Rattle.machine.specs.declared.answers.CallRefusal.TheVariants.{NoRegister, NoControlRegister, NoTlbEntry, RunTooLong}

abbrev pub event_number : Event → ℕ
event_number Done = 0
event_number Waiting = 1
event_number (Exception cause) = 2

-- Ecode and EsubCode of an exception
abbrev pub event_codes : Event → Option (ℕ × ℕ)
event_codes Done = None
event_codes Waiting = None
event_codes (Exception cause) = Some (ecode cause, esubcode cause)

-- the bus's number, 8 or 9
abbrev pub step_refusal_number : StepRefusal → ℕ
step_refusal_number e = refusal_number e.by_bus

-- the address that the bus names
abbrev pub step_refusal_address : StepRefusal → Option PhysAddr
step_refusal_address e = refusal_address e.by_bus

abbrev pub number_of_refused : Option StepRefusal → ℕ
number_of_refused None = 0
number_of_refused (Some e) = step_refusal_number e

abbrev pub address_of_refused : Option StepRefusal → Option PhysAddr
address_of_refused None = None
address_of_refused (Some e) = step_refusal_address e

-- of the refused step that cut a run short, if one did, or 0
abbrev pub report_number : RunReport → ℕ
report_number report = number_of_refused report.refusal

abbrev pub report_address : RunReport → Option PhysAddr
report_address report = address_of_refused report.refusal

abbrev pub call_refusal_number : CallRefusal → ℕ
call_refusal_number NoRegister = 3
call_refusal_number NoControlRegister = 4
call_refusal_number NoTlbEntry = 5
call_refusal_number RunTooLong = 6
