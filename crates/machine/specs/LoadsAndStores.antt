-- What loads and stores do at the place to which their address leads.
use Rattle.std.specs.Prelude.{ℕ, Bool, true, false, Ok, Err, Result}
use Rattle.bus.specs.declared.address.PhysAddr.{PhysAddr}
use Rattle.bus.specs.declared.refusal.Refusal.{Refusal}
use Rattle.bus.specs.Memory.{Memory, read_of, write_of}
use Rattle.isa.specs.declared.register.Reg.{Reg}
use Rattle.isa.specs.declared.instruction.LoadOp.{LoadOp}
use Rattle.isa.specs.declared.instruction.StoreOp.{StoreOp}
use Rattle.operations.specs.Operations.{load_width, load_result, store_width}
use Rattle.pages.specs.declared.access_kind.AccessKind.TheVariants.{Load, Store}
use Rattle.csr.specs.declared.exception.Exception.{Exception}
use Rattle.csr.specs.Words.{bit}
use Rattle.machine.specs.declared.state.State.{State}
use Rattle.machine.specs.State.{advanced, with_result}
use Rattle.machine.specs.Outcomes.{Outcome, StepAnswer, Settled, unasked, done, raise, refused}

-- a load that read a value leaves the state `after` of it
abbrev pub loaded : State → Memory → (ℕ → State) → Result ℕ Refusal → Outcome StepAnswer
loaded s m after (Ok value) = unasked (done (after value)) m
loaded s m after (Err e) = refused s Load e m

-- GR[rd] gets what was read
abbrev pub load_from : State → Memory → LoadOp → Reg → PhysAddr → Outcome StepAnswer
load_from s m op rd place = loaded s m (λ value. with_result s rd (load_result op value)) (read_of m place.0 (load_width op))

-- a store that was done leaves the state `after`
abbrev pub stored : State → State → Memory → Result Memory Refusal → Outcome StepAnswer
stored s after m (Ok n) = unasked (done after) n
stored s after m (Err e) = refused s Store e m

abbrev pub store_to : State → Memory → StoreOp → ℕ → PhysAddr → Outcome StepAnswer
store_to s m op value place = stored s (advanced s) m (write_of m place.0 (store_width op) value)

abbrev pub with_link : State → Bool → State
with_link s link = record s { registers = record s.registers { link = link } }

-- LL.W: GR[rd] gets what was read, and the link is set
abbrev pub load_linked_from : State → Memory → Reg → PhysAddr → Outcome StepAnswer
load_linked_from s m rd place = loaded s m (λ value. with_link (with_result s rd value) true) (read_of m place.0 4)

-- GR[rd] gets the link as it was, and the link is cleared
abbrev pub unlinked : State → Reg → State
unlinked s rd = with_link (with_result s rd (bit s.registers.link)) false

-- SC.W: it stores if the link is 1, and else asks no bus
abbrev pub store_conditional_to : State → Memory → Reg → ℕ → Bool → PhysAddr → Outcome StepAnswer
store_conditional_to s m rd value true place = stored s (unlinked s rd) m (write_of m place.0 4 value)
store_conditional_to s m rd value false place = unasked (done (unlinked s rd)) m

-- a CACOP of the Hit kind asks no bus
abbrev pub probe : State → Result PhysAddr Exception → Settled
probe s (Ok place) = done (advanced s)
probe s (Err e) = raise s e
