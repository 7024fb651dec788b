-- The instruction at the PC is fetched and acts, unless an interrupt is taken.
use Rattle.std.specs.Prelude.{ℕ, Bool, true, false, Some, None, Option, Ok, Err, Result}
use Rattle.bus.specs.declared.address.PhysAddr.{PhysAddr}
use Rattle.bus.specs.declared.refusal.Refusal.{Refusal}
use Rattle.bus.specs.Memory.{Memory, read_of}
use Rattle.isa.specs.declared.instruction.Instruction.{Instruction}
use Rattle.isa.specs.Decoding.{decode_of}
use Rattle.operations.specs.Operations.{load_width, store_width}
use Rattle.pages.specs.declared.access_kind.AccessKind.TheVariants as kind
use Rattle.csr.specs.declared.exception.Exception.TheVariants.{Int, Ine}
use Rattle.control.specs.Exceptions.{interrupted}
use Rattle.actions.specs.declared.action.Action.{Action}
use Rattle.actions.specs.declared.action.Action.TheVariants.{Write, Go, Load, Store, LoadLinked, StoreConditional, Probe, Raise, Privileged}
use Rattle.actions.specs.Plan.{plan}
use Rattle.machine.specs.declared.state.State.{State}
use Rattle.machine.specs.State.{goes_to, with_write}
use Rattle.machine.specs.Access.{locate}
use Rattle.machine.specs.Outcomes.{Outcome, StepAnswer, unasked, done, raise, refused, at_place}
use Rattle.machine.specs.LoadsAndStores.{load_from, store_to, load_linked_from, store_conditional_to, probe}
use Rattle.machine.specs.Supervision.{by_privilege}

abbrev pub perform : State → Memory → Action → Outcome StepAnswer
perform s m (Write rd value next) = unasked (done (with_write s rd value next)) m
perform s m (Go next) = unasked (done (goes_to s next)) m
perform s m (Load op rd at) = at_place s m (load_from s m op rd) (locate s kind.Load (load_width op) at)
perform s m (Store op at value) = at_place s m (store_to s m op value) (locate s kind.Store (store_width op) at)
perform s m (LoadLinked rd at) = at_place s m (load_linked_from s m rd) (locate s kind.Load 4 at)
perform s m (StoreConditional rd at value) = at_place s m (store_conditional_to s m rd value s.registers.link) (locate s kind.Store 4 at)
perform s m (Probe at) = unasked (probe s (locate s kind.Load 1 at)) m
perform s m (Raise e) = unasked (raise s e) m
perform s m (Privileged action) = unasked (by_privilege s.registers.mode.plv s action) m

-- a word that is no instruction is INE
abbrev pub decoded : State → Memory → Option Instruction → Outcome StepAnswer
decoded s m (Some instruction) = perform s m (plan s.user s.registers.timer instruction)
decoded s m None = unasked (raise s Ine) m

abbrev pub fetched : State → Memory → Result ℕ Refusal → Outcome StepAnswer
fetched s m (Ok word) = decoded s m (decode_of word)
fetched s m (Err e) = refused s kind.Fetch e m

abbrev pub fetch_from : State → Memory → PhysAddr → Outcome StepAnswer
fetch_from s m place = fetched s m (read_of m place.0 4)

abbrev pub fetch : State → Memory → Outcome StepAnswer
fetch s m = at_place s m (fetch_from s m) (locate s kind.Fetch 4 s.user.pc)

-- an interrupt comes without a fetch
abbrev pub by_interrupt : Bool → State → Memory → Outcome StepAnswer
by_interrupt true s m = unasked (raise s Int) m
by_interrupt false s m = fetch s m

abbrev pub execute : State → Memory → Outcome StepAnswer
execute s m = by_interrupt (interrupted s.registers) s m
