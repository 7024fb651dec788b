use Rattle.std.proofs.Common.{◌≡◌, ◌-◌, Ok}
use Rattle.machine.specs.Laws.{further, NoStepFetches}
use Rattle.machine.specs.Outcomes.{outcome}
use Rattle.machine.specs.Step.{run_of}
use Rattle.machine.specs.StepLoop.{Single}
use Rattle.machine.proofs.state_with_look_aside.StateWithLookAside.steps.Given as goal

-- what is left to run from here comes to what the whole run comes to
abbrev pub invariant-loop-steps : goal.invariant-loop-steps
invariant-loop-steps g l =
    (further l.steps (run_of (l.count - l.steps) l.levels l.self (g.B.Bus.byte l.bus)) ≡ run_of l.count l.levels l.initial.self (g.B.Bus.byte l.initial.bus))
    × (g.B.Bus.layout l.bus ≡ g.B.Bus.layout l.initial.bus)
    × (NoStepFetches l.count l.levels l.initial.self (g.B.Bus.byte l.initial.bus) → (l.bus ≡ l.initial.bus) × NoStepFetches (l.count - l.steps) l.levels l.self (g.B.Bus.byte l.bus))
    × (l.steps ≡ 0 → (l.self ≡ l.initial.self) × (l.bus ≡ l.initial.bus))
    × (l.steps ≡ 1 → Single l.initial.self l.levels (g.B.Bus.byte l.initial.bus) (outcome (Ok l.last) l.self (g.B.Bus.byte l.bus)) (l.bus ≡ l.initial.bus))
