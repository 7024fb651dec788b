-- The worked examples.
use Rattle.std.proofs.Common.{◌≡◌, ℕ, suc, cond, Some, Ok, Result, refl, ap, ◌∙◌}
use Rattle.std.proofs.lemmas.Bool.{eq-eqb}
use Rattle.bus.specs.Memory.{Memory}
use Rattle.isa.specs.Fields.{reg_of}
use Rattle.isa.specs.Decoding.{decode_of}
use Rattle.csr.specs.declared.mode.TranslationMode.TheVariants.{Mapped}
use Rattle.csr.specs.Exceptions.{ecode}
use Rattle.csr.specs.Mode.{da_pg}
use Rattle.control.specs.declared.number.Csr.TheVariants.{Tcfg}
use Rattle.control.specs.declared.registers.Registers.{Registers}
use Rattle.control.specs.Exceptions.{returned}
use Rattle.actions.specs.Registers.{gr}
use Rattle.actions.specs.User.{virtual, next_pc}
use Rattle.machine.specs.declared.answers.Event.TheVariants as event
use Rattle.machine.specs.declared.answers.CallRefusal.{CallRefusal}
use Rattle.machine.specs.declared.answers.RunReport.{RunReport}
use Rattle.machine.specs.Calls.{run}
use Rattle.pages.specs.declared.address.VirtAddr.{VirtAddr}
use Rattle.machine.specs.declared.state.State.{State}
use Rattle.machine.specs.Outcomes.{outcome}
use Rattle.machine.specs.State.{reset_state, goes_to, with_write}
use Rattle.machine.specs.Supervision.{csr_written}
use Rattle.machine.specs.Step.{with_beat, step, run_of}
use Rattle.machine.proofs.FirstProgram.{begun, by_fetch, sum_3, run_one, three_steps}
use Rattle.selftest.specs.Addition.{HoldsWord, HoldsAddition, the_sum}
use Rattle.selftest.specs.declared.addition.Sum.{Sum}
use Rattle.selftest.specs.Examples.{HoldsTimer, WorkedExamples}

sum_run : (m : Memory) → HoldsAddition m → (run_of 3 0 reset_state m).state ≡ sum_3
sum_run m holds = ap (λ o. o.state) (three_steps m holds.first holds.second holds.third)

abbrev timer_1 : State
timer_1 = with_beat (with_write (begun reset_state) (reg_of 4) 5 (virtual 0x1c000004))

abbrev timer_2 : State
timer_2 = with_beat (csr_written (begun timer_1) (reg_of 4) (Some Tcfg) 5)

-- a step that goes to the next instruction and does no more
abbrev passed : State → State
passed s = with_beat (goes_to (begun s) (next_pc s.user))

timer_step_1 : (m : Memory) → HoldsWord m 0x1c000000 0x02801404 → step reset_state 0 m ≡ outcome (Ok event.Done) timer_1 m
unfolding step decode_of
timer_step_1 m holds = ap (by_fetch reset_state m) holds

timer_step_2 : (m : Memory) → HoldsWord m 0x1c000004 0x04010424 → step timer_1 0 m ≡ outcome (Ok event.Done) timer_2 m
unfolding step decode_of
timer_step_2 m holds = ap (by_fetch timer_1 m) holds

timer_step_3 : (m : Memory) → HoldsWord m 0x1c000008 0x03400000 → step timer_2 0 m ≡ outcome (Ok event.Done) (passed timer_2) m
unfolding step decode_of
timer_step_3 m holds = ap (by_fetch timer_2 m) holds

timer_step_4 : (m : Memory) → HoldsWord m 0x1c00000c 0x03400000 → step (passed timer_2) 0 m ≡ outcome (Ok event.Done) (passed (passed timer_2)) m
unfolding step decode_of
timer_step_4 m holds = ap (by_fetch (passed timer_2) m) holds

timer_step_5 : (m : Memory) → HoldsWord m 0x1c000010 0x03400000
    → step (passed (passed timer_2)) 0 m ≡ outcome (Ok event.Done) (passed (passed (passed timer_2))) m
unfolding step decode_of
timer_step_5 m holds = ap (by_fetch (passed (passed timer_2)) m) holds

timer_run : (n : ℕ) (m : Memory) → HoldsTimer m → (run_of (suc (suc n)) 0 reset_state m).state ≡ (run_of n 0 timer_2 m).state
timer_run n m holds =
    ap (λ o. o.state) (run_one (suc n) reset_state timer_1 m (timer_step_1 m holds.first))
    ∙ ap (λ o. o.state) (run_one n timer_1 timer_2 m (timer_step_2 m holds.second))

timer_out : (m : Memory) → HoldsTimer m → (run_of 3 0 timer_2 m).state ≡ passed (passed (passed timer_2))
timer_out m holds =
    ap (λ o. o.state) (run_one 2 timer_2 (passed timer_2) m (timer_step_3 m holds.third))
    ∙ ap (λ o. o.state) (run_one 1 (passed timer_2) (passed (passed timer_2)) m (timer_step_4 m holds.fourth))
    ∙ ap (λ o. o.state) (run_one 0 (passed (passed timer_2)) (passed (passed (passed timer_2))) m (timer_step_5 m holds.fifth))

mapped_again : (r : Registers) → ecode r.cause ≡ 0x3f → da_pg (returned r).mode.translation ≡ 2
mapped_again r is = ap (λ b. da_pg (cond b Mapped r.mode.translation)) (eq-eqb (ecode r.cause) 0x3f is)

pub worked_examples : WorkedExamples
worked_examples = record {
  addition = λ m holds. (
    ap (λ (s : State). gr s.user.general (reg_of 4)) (sum_run m holds),
    ap (λ (s : State). gr s.user.general (reg_of 5)) (sum_run m holds),
    ap (λ (s : State). s.user.pc) (sum_run m holds),
  );
  products = (refl, refl);
  quotients = (refl, refl);
  shift = refl;
  comparison = refl;
  window = refl;
  no_window = λ tlb. refl;
  large_page = refl;
  misaligned = λ s m rd. refl;
  timer = λ m holds. (
    ap (λ (s : State). s.registers.timer.tval) (timer_run 0 m holds),
    ap (λ (s : State). s.registers.interrupts.pending.ti) (timer_run 0 m holds),
    ap (λ (s : State). s.registers.interrupts.pending.ti) (timer_run 3 m holds ∙ timer_out m holds),
  );
  return = mapped_again;
}

-- what is read out of a core that ran the first program
pub summed : (m : Memory) (s core : State) (n : Memory) (ran : Result RunReport CallRefusal) (r4 r5 counter : ℕ) (pc : VirtAddr) → HoldsAddition m
    → s ≡ reset_state → outcome ran core n ≡ run s 3 0 m → r4 ≡ gr core.user.general (reg_of 4) → r5 ≡ gr core.user.general (reg_of 5)
    → pc ≡ core.user.pc → counter ≡ core.registers.timer.counter → ◌≡◌ {A = Sum} (record { r4 = r4; r5 = r5; pc = pc; counter = counter }) the_sum
summed m s core n ran r4 r5 counter pc holds fresh is four five at counted =
    let left : core ≡ sum_3 = ap (λ o. o.state) is ∙ ap (λ (t : State). (run t 3 0 m).state) fresh ∙ sum_run m holds in
    (λ i. record { r4 = four i; r5 = five i; pc = at i; counter = counted i })
    ∙ (λ i. record { r4 = gr (left i).user.general (reg_of 4); r5 = gr (left i).user.general (reg_of 5); pc = (left i).user.pc; counter = (left i).registers.timer.counter })
