-- What a loop of steps comes to.
use Rattle.std.specs.Prelude.{◌≡◌, ℕ, Some, None, Option, Ok, Err}
use Rattle.bus.specs.Memory.{Memory}
use Rattle.machine.specs.declared.answers.RunReport.{RunReport}
use Rattle.machine.specs.declared.answers.StepRefusal.{StepRefusal}
use Rattle.machine.specs.declared.stepping.StepsMade.{StepsMade}
use Rattle.machine.specs.declared.state.State.{State}
use Rattle.machine.specs.Outcomes.{Outcome, StepAnswer}
use Rattle.machine.specs.Step.{step}
use Rattle.machine.specs.Isolation.{FetchesNothing}

abbrev pub refusal_in : StepAnswer → Option StepRefusal
refusal_in (Ok e) = None
refusal_in (Err e) = Some e

abbrev pub report : StepsMade → RunReport
report made = record { steps = made.steps; refusal = refusal_in made.last }

-- a loop of one step comes to what the step does, and leaves alone what that leaves alone
pub record Single (s : State) (levels : ℕ) (m : Memory) (o : Outcome StepAnswer) (Untouched : Type 0) : Type 0 where
  pub value : o ≡ step s levels m
  pub untouched : FetchesNothing s levels → Untouched
