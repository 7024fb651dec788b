-- What the driver's calls answer, and what a list of them does.
use Rattle.std.specs.Prelude.{List, [], ◌∷◌}
use Rattle.bus.specs.Memory.{Memory}
use Rattle.machine.specs.declared.state.State.{State}
use Rattle.machine.specs.Calls.{run, register_read, control_register_read, tlb_entry_read}
use Rattle.machine.specs.Isolation.{FetchesNothing}
use Rattle.machine.specs.Laws.{RunFetchesNothing}
use Rattle.machine.specs.Outcomes.{Outcome, outcome, with_answer}
use Rattle.machine.specs.State.{reset_state}
use Rattle.machine.specs.Step.{step}
use Rattle.driver.specs.declared.call.Call.{Call}
use Rattle.driver.specs.declared.call.Call.TheVariants.{Reset, Step, Run, Pc, Register, ControlRegister, TlbEntry}
use Rattle.driver.specs.declared.call.Answer.{Answer}
use Rattle.driver.specs.declared.call.Answer.TheVariants as answer

abbrev pub perform_of : State → Memory → Call → Outcome Answer
perform_of s m Reset = outcome answer.Reset reset_state m
perform_of s m (Step levels) = with_answer answer.Step (step s levels m)
perform_of s m (Run count levels) = with_answer answer.Run (run s count levels m)
perform_of s m Pc = outcome (answer.Pc s.user.pc) s m
perform_of s m (Register number) = outcome (answer.Register (register_read s number)) s m
perform_of s m (ControlRegister number) = outcome (answer.ControlRegister (control_register_read s number)) s m
perform_of s m (TlbEntry number) = outcome (answer.TlbEntry (tlb_entry_read s number)) s m

-- an answer, and those that follow it
abbrev pub then : Answer → Outcome (List Answer) → Outcome (List Answer)
then a rest = record rest { answer = a ∷ rest.answer }

-- each call works on what those before it left
abbrev pub drive_of : State → Memory → List Call → Outcome (List Answer)
drive_of s m [] = outcome [] s m
drive_of s m (c ∷ cs) = then (perform_of s m c).answer (drive_of (perform_of s m c).state (perform_of s m c).memory cs)

-- no step that the call performs fetches an instruction
abbrev pub CallFetchesNothing : Call → State → Memory → Type 0
CallFetchesNothing (Step levels) s m = FetchesNothing s levels
CallFetchesNothing (Run count levels) s m = RunFetchesNothing count levels s m
CallFetchesNothing _ s m = Unit {0}

-- no step that the calls perform fetches an instruction
abbrev pub AllFetchNothing : List Call → State → Memory → Type 0
AllFetchNothing [] s m = Unit {0}
AllFetchNothing (c ∷ cs) s m = CallFetchesNothing c s m × AllFetchNothing cs (perform_of s m c).state (perform_of s m c).memory
