-- What the calls of a core answer, beside a step.
use Rattle.std.specs.Prelude.{ℕ, Bool, true, false, cond, nat_lt, Some, None, Option, Ok, Err, Result}
use Rattle.bus.specs.Memory.{Memory}
use Rattle.isa.specs.Fields.{reg_of}
use Rattle.tlb.specs.declared.entry.Entry.{Entry}
use Rattle.tlb.specs.Searching.{entry}
use Rattle.control.specs.declared.number.Csr.{Csr}
use Rattle.control.specs.Numbers.{csr_numbered}
use Rattle.control.specs.Registers.{read_of}
use Rattle.actions.specs.Registers.{gr}
use Rattle.machine.specs.declared.answers.CallRefusal.{CallRefusal}
use Rattle.machine.specs.declared.answers.CallRefusal.TheVariants.{NoRegister, NoControlRegister, NoTlbEntry, RunTooLong}
use Rattle.machine.specs.declared.answers.RunReport.{RunReport}
use Rattle.machine.specs.declared.stages.ClosedCore.{ClosedCore}
use Rattle.machine.specs.declared.state.State.{State}
use Rattle.machine.specs.Outcomes.{Outcome, outcome, with_answer}
use Rattle.machine.specs.Step.{run_of}

-- the longest run
abbrev pub most_steps : ℕ
most_steps = 65536

abbrev pub by_length : Bool → ℕ → ℕ → State → Memory → Outcome (Result RunReport CallRefusal)
by_length true count levels s m = outcome (Err RunTooLong) s m
by_length false count levels s m = with_answer Ok (run_of count levels s m)

-- a longer run is refused before anything
abbrev pub run : State → ℕ → ℕ → Memory → Outcome (Result RunReport CallRefusal)
run s count levels m = by_length (nat_lt most_steps count) count levels s m

abbrev pub register_read : State → ℕ → Result ℕ CallRefusal
register_read s number = cond (nat_lt number 32) (Ok (gr s.user.general (reg_of number))) (Err NoRegister)

abbrev pub csr_read_out : State → Option Csr → Result ℕ CallRefusal
csr_read_out s (Some csr) = Ok (read_of s.registers csr)
csr_read_out s None = Err NoControlRegister

abbrev pub control_register_read : State → ℕ → Result ℕ CallRefusal
control_register_read s number = csr_read_out s (csr_numbered number)

abbrev pub tlb_entry_read : State → ℕ → Result Entry CallRefusal
tlb_entry_read s number = cond (nat_lt number 16) (Ok (entry s.tlb number)) (Err NoTlbEntry)

abbrev pub closed : State → ClosedCore
closed s = record { pc = s.user.pc; counter = s.registers.timer.counter }
