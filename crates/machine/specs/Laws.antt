-- Laws of steps and runs.
use Rattle.std.specs.Prelude.{◌≡◌, ℕ, suc, ◌≤◌, ◌+◌, Bool, false, Some, None, Option, Ok, Err}
use Rattle.bus.specs.declared.address.PhysAddr.{PhysAddr}
use Rattle.bus.specs.Memory.{Memory, address, is_absent, is_fixed}
use Rattle.bus.specs.Rules.{NoneNamed, LowestNamed}
use Rattle.pages.specs.declared.access_kind.AccessKind.TheVariants.{Store}
use Rattle.pages.specs.declared.privilege.Privilege.TheVariants.{Plv0}
use Rattle.csr.specs.declared.exception.Cause.TheVariants as cause
use Rattle.machine.specs.declared.answers.Event.{Event}
use Rattle.machine.specs.declared.answers.Event.TheVariants.{Done, Waiting, Exception}
use Rattle.machine.specs.declared.answers.RunReport.{RunReport}
use Rattle.machine.specs.declared.answers.StepRefusal.{StepRefusal}
use Rattle.machine.specs.declared.state.State.{State}
use Rattle.machine.specs.Answers.{step_refusal_number, step_refusal_address}
use Rattle.machine.specs.Calls.{most_steps}
use Rattle.machine.specs.Isolation.{CallsBus, Asks, FetchesNothing, Withheld, Agree, Alike}
use Rattle.machine.specs.Outcomes.{Outcome, StepAnswer}
use Rattle.machine.specs.Step.{step, run_of}

-- why the bus refuses a step, by number and address: of the bytes of a call that the step makes, one is absent, or none is but one is fixed
-- and was to be stored to; the lowest such is named
pub data RefusedFor (s : State) (levels : ℕ) (m : Memory) (e : StepRefusal) : Type 0 where
  missing : (w : ℕ) (to : PhysAddr) (x : ℕ) → CallsBus s levels m e.kind w to → LowestNamed is_absent m to.0 w x
      → step_refusal_number e ≡ 8 → step_refusal_address e ≡ Some (address x) → RefusedFor s levels m e
  unwritable : (w : ℕ) (to : PhysAddr) (x : ℕ) → CallsBus s levels m e.kind w to → e.kind ≡ Store → NoneNamed is_absent m to.0 w
      → LowestNamed is_fixed m to.0 w x → step_refusal_number e ≡ 9 → step_refusal_address e ≡ Some (address x) → RefusedFor s levels m e

-- a step that the bus refused leaves core and memory as they were
pub record Refused (s : State) (levels : ℕ) (m : Memory) (e : StepRefusal) (t : State) (n : Memory) : Type 0 where
  pub reason : RefusedFor s levels m e
  pub pc : e.pc ≡ s.user.pc
  pub state : t ≡ s
  pub memory : n ≡ m

abbrev pub IfExceptionEvent : Event → Type 0 → Type 0
IfExceptionEvent Done P = Unit {0}
IfExceptionEvent Waiting P = Unit {0}
IfExceptionEvent (Exception cause) P = P

abbrev pub IfException : StepAnswer → Type 0 → Type 0
IfException (Ok e) P = IfExceptionEvent e P
IfException (Err e) P = Unit {0}

-- t, as an exception that was taken in s leaves the core
pub record HandlerBegins (s t : State) : Type 0 where
  pub plv : t.registers.mode.plv ≡ Plv0
  pub ie : t.registers.mode.ie ≡ false
  pub era : t.registers.era ≡ s.user.pc

pub record InterruptTaken (s : State) (levels : ℕ) (m : Memory) (o : Outcome StepAnswer) : Type 0 where
  pub answer : o.answer ≡ Ok (Exception cause.Int)
  pub asks_nothing : (x : ℕ) → Asks s levels m x → ⊥
  pub memory : o.memory ≡ m

-- a run of which k steps were made before
abbrev pub further : ℕ → Outcome RunReport → Outcome RunReport
further k rest = record rest { answer = record rest.answer { steps = k + rest.answer.steps } }

-- a run of k steps that was not cut short, and then a run from there; one that was cut short ends the whole
abbrev pub followed_by : ℕ → Option StepRefusal → Outcome RunReport → Outcome RunReport → Outcome RunReport
followed_by k None first rest = further k rest
followed_by k (Some e) first rest = first

abbrev pub after : Outcome RunReport → (State → Memory → Outcome RunReport) → Outcome RunReport
after first rest = followed_by first.answer.steps first.answer.refusal first (rest first.state first.memory)

-- a run of a + b steps is a run of a, and then one of b
abbrev pub Splits : ℕ → ℕ → State → Memory → Outcome RunReport → Type 0
Splits count levels s m whole = (a b : ℕ) → count ≡ a + b → whole ≡ after (run_of a levels s m) (run_of b levels)

-- a run of up to so many steps makes the machine begin a step in that core and memory
pub data RunPerforms : ℕ → ℕ → State → Memory → State → Memory → Type 0 where
  first : {n levels : ℕ} {s : State} {m : Memory} → RunPerforms (suc n) levels s m s m
  later : {n levels : ℕ} {s t : State} {m k : Memory} (e : Event) → (step s levels m).answer ≡ Ok e
      → RunPerforms n levels (step s levels m).state (step s levels m).memory t k → RunPerforms (suc n) levels s m t k

-- no step of a run of so many fetches an instruction
abbrev pub NoStepFetches : ℕ → ℕ → State → Memory → Type 0
NoStepFetches count levels s m = (t : State) (k : Memory) → RunPerforms count levels s m t k → FetchesNothing t levels

-- the same of any count: a run of too many steps is refused and makes none
abbrev pub RunFetchesNothing : ℕ → ℕ → State → Memory → Type 0
RunFetchesNothing count levels s m = count ≤ most_steps → NoStepFetches count levels s m

-- bytes are withheld from each step that the run performs
abbrev pub RunWithheld : (ℕ → Bool) → ℕ → ℕ → State → Memory → Type 0
RunWithheld withheld count levels s m = (t : State) (k : Memory) → RunPerforms count levels s m t k → Withheld withheld t levels k

-- whatever bytes are withheld from a run, it is alike on every memory that agrees on the others
abbrev pub RunIsolated : ℕ → ℕ → State → Memory → Outcome RunReport → Type 0
RunIsolated count levels s m left =
    (withheld : ℕ → Bool) (n : Memory) → Agree withheld m n → RunWithheld withheld count levels s m
    → Alike withheld m n left (run_of count levels s n)
