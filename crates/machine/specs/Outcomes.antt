-- What a part of a step comes to.
use Rattle.std.specs.Prelude.{Ok, Err, Result}
use Rattle.bus.specs.declared.address.PhysAddr.{PhysAddr}
use Rattle.bus.specs.declared.refusal.Refusal.{Refusal}
use Rattle.bus.specs.Memory.{Memory}
use Rattle.pages.specs.declared.access_kind.AccessKind.{AccessKind}
use Rattle.csr.specs.declared.exception.Exception.{Exception}
use Rattle.csr.specs.Exceptions.{cause_of}
use Rattle.control.specs.Exceptions.{raised, handler}
use Rattle.actions.specs.User.{with_pc}
use Rattle.machine.specs.declared.answers.Event.{Event}
use Rattle.machine.specs.declared.answers.Event.TheVariants as event
use Rattle.machine.specs.declared.answers.StepRefusal.{StepRefusal}
use Rattle.machine.specs.declared.state.State.{State}

-- what is answered, and the core and the memory then
pub record Outcome (A : Type 0) : Type 0 where
  pub answer : A
  pub state : State
  pub memory : Memory

abbrev pub outcome : {A : Type 0} → A → State → Memory → Outcome A
outcome a s m = record { answer = a; state = s; memory = m }

-- the same with an answer that is made of this one
abbrev pub with_answer : {A B : Type 0} → (A → B) → Outcome A → Outcome B
with_answer f o = outcome (f o.answer) o.state o.memory

abbrev pub StepAnswer : Type 0
StepAnswer = Result Event StepRefusal

-- what comes of a step's part that asks no bus
pub record Settled : Type 0 where
  pub event : Event
  pub state : State

abbrev pub settled : Event → State → Settled
settled e s = record { event = e; state = s }

abbrev pub unasked : Settled → Memory → Outcome StepAnswer
unasked x m = outcome (Ok x.event) x.state m

abbrev pub done : State → Settled
done s = settled event.Done s

-- the exception is taken: its handler begins
abbrev pub raise : State → Exception → Settled
raise s e = settled (event.Exception (cause_of e)) (record s {
  user = with_pc s.user (handler s.registers (cause_of e));
  registers = raised s.registers e s.user.pc;
})

-- the bus refused
abbrev pub refused : State → AccessKind → Refusal → Memory → Outcome StepAnswer
refused s kind e m = outcome (Err (record { by_bus = e; kind = kind; pc = s.user.pc })) s m

-- what is done at the place of an access, if there is one
abbrev pub at_place : State → Memory → (PhysAddr → Outcome StepAnswer) → Result PhysAddr Exception → Outcome StepAnswer
at_place s m act (Ok place) = act place
at_place s m act (Err e) = unasked (raise s e) m
