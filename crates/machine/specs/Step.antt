-- One step, and a run of steps.
use Rattle.std.specs.Prelude.{ℕ, zero, suc, Bool, true, false, Some, None, Ok, Err}
use Rattle.bus.specs.Memory.{Memory}
use Rattle.csr.specs.Interrupts.{due}
use Rattle.control.specs.Exceptions.{with_levels, registers_after_beat}
use Rattle.machine.specs.declared.answers.Event.TheVariants as event
use Rattle.machine.specs.declared.answers.RunReport.{RunReport}
use Rattle.machine.specs.declared.state.Activity.{Activity}
use Rattle.machine.specs.declared.state.Activity.TheVariants.{Running, Waiting}
use Rattle.machine.specs.declared.state.State.{State}
use Rattle.machine.specs.Outcomes.{Outcome, outcome, StepAnswer, settled, unasked}
use Rattle.machine.specs.Execution.{execute}

-- the levels of the eight lines go to ESTAT's IS
abbrev pub at_levels : State → ℕ → State
at_levels s levels = record s { registers = with_levels s.registers levels }

-- a waiting core goes on waiting if nothing is due
abbrev pub keeps_waiting : Activity → Bool → Bool
keeps_waiting Waiting false = true
keeps_waiting Waiting true = false
keeps_waiting Running due_now = false

abbrev pub awake : State → State
awake s = record s { activity = Running }

abbrev pub by_waiting : Bool → State → Memory → Outcome StepAnswer
by_waiting true s m = unasked (settled event.Waiting s) m
by_waiting false s m = execute (awake s) m

abbrev pub act : State → Memory → Outcome StepAnswer
act s m = by_waiting (keeps_waiting s.activity (due s.registers.interrupts)) s m

abbrev pub with_beat : State → State
with_beat s = record s { registers = registers_after_beat s.registers }

-- the beat ends every accepted step; one that was refused leaves everything as it was
abbrev pub ended : State → Memory → StepAnswer → Outcome StepAnswer → Outcome StepAnswer
ended s m (Ok e) o = outcome (Ok e) (with_beat o.state) o.memory
ended s m (Err e) o = outcome (Err e) s m

abbrev pub acted : State → ℕ → Memory → Outcome StepAnswer
acted s levels m = act (at_levels s levels) m

unfoldable pub step : State → ℕ → Memory → Outcome StepAnswer
step s levels m = ended s m (acted s levels m).answer (acted s levels m)

-- a run after its first step: that step counts if it was accepted, and else cuts the run short
abbrev pub ran_on : StepAnswer → Outcome StepAnswer → Outcome RunReport → Outcome RunReport
ran_on (Ok e) o rest = record rest { answer = record rest.answer { steps = suc rest.answer.steps } }
ran_on (Err e) o rest = outcome (record { steps = 0; refusal = Some e }) o.state o.memory

abbrev pub run_of : ℕ → ℕ → State → Memory → Outcome RunReport
run_of zero levels s m = outcome (record { steps = 0; refusal = None }) s m
run_of (suc n) levels s m = ran_on (step s levels m).answer (step s levels m) (run_of n levels (step s levels m).state (step s levels m).memory)
