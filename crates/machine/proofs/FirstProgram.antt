-- The first program, by the definitions: addi.w r4, r0, -1; add.w r5, r4, r4; b 0.
use Rattle.std.proofs.Common.{◌≡◌, ℕ, suc, None, Ok, Result, ap, ◌∙◌}
use Rattle.bus.specs.declared.refusal.Refusal.{Refusal}
use Rattle.bus.specs.Memory.{Memory, read_of}
use Rattle.isa.specs.Fields.{reg_of}
use Rattle.isa.specs.Decoding.{decode_of}
use Rattle.actions.specs.User.{virtual}
use Rattle.machine.specs.declared.answers.Event.TheVariants as event
use Rattle.machine.specs.declared.answers.RunReport.{RunReport}
use Rattle.machine.specs.declared.state.State.{State}
use Rattle.machine.specs.Execution.{fetched}
use Rattle.machine.specs.Outcomes.{Outcome, outcome, StepAnswer}
use Rattle.machine.specs.State.{reset_state, goes_to, with_write}
use Rattle.machine.specs.Step.{at_levels, awake, with_beat, ended, step, ran_on, run_of}
use Rattle.machine.proofs.Runs.{one_more_step}

abbrev pub begun : State → State
begun s = awake (at_levels s 0)

-- the step whose fetch gives r
abbrev pub by_fetch : State → Memory → Result ℕ Refusal → Outcome StepAnswer
by_fetch s m r = ended s m (fetched (begun s) m r).answer (fetched (begun s) m r)

-- what the steps leave
abbrev pub sum_1 : State
sum_1 = with_beat (with_write (begun reset_state) (reg_of 4) 0xffffffff (virtual 0x1c000004))

abbrev pub sum_2 : State
sum_2 = with_beat (with_write (begun sum_1) (reg_of 5) 0xfffffffe (virtual 0x1c000008))

abbrev pub sum_3 : State
sum_3 = with_beat (goes_to (begun sum_2) (virtual 0x1c000008))

pub sum_step_1 : (m : Memory) → read_of m 0x1c000000 4 ≡ Ok 0x02bffc04 → step reset_state 0 m ≡ outcome (Ok event.Done) sum_1 m
unfolding step decode_of
sum_step_1 m holds = ap (by_fetch reset_state m) holds

pub sum_step_2 : (m : Memory) → read_of m 0x1c000004 4 ≡ Ok 0x00101085 → step sum_1 0 m ≡ outcome (Ok event.Done) sum_2 m
unfolding step decode_of
sum_step_2 m holds = ap (by_fetch sum_1 m) holds

pub sum_step_3 : (m : Memory) → read_of m 0x1c000008 4 ≡ Ok 0x50000000 → step sum_2 0 m ≡ outcome (Ok event.Done) sum_3 m
unfolding step decode_of
sum_step_3 m holds = ap (by_fetch sum_2 m) holds

-- a run whose first step is done
pub run_one : (n : ℕ) (s t : State) (m : Memory) → step s 0 m ≡ outcome (Ok event.Done) t m → run_of (suc n) 0 s m ≡ one_more_step (run_of n 0 t m)
run_one n s t m is = ap (λ o. ran_on o.answer o (run_of n 0 o.state o.memory)) is

abbrev pub three : RunReport
three = record { steps = 3; refusal = None }

pub three_steps : (m : Memory) → read_of m 0x1c000000 4 ≡ Ok 0x02bffc04 → read_of m 0x1c000004 4 ≡ Ok 0x00101085 → read_of m 0x1c000008 4 ≡ Ok 0x50000000
    → run_of 3 0 reset_state m ≡ outcome three sum_3 m
three_steps m first second third =
    run_one 2 reset_state sum_1 m (sum_step_1 m first)
    ∙ ap one_more_step (run_one 1 sum_1 sum_2 m (sum_step_2 m second))
    ∙ ap (λ o. one_more_step (one_more_step o)) (run_one 0 sum_2 sum_3 m (sum_step_3 m third))
