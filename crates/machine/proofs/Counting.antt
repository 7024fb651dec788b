-- The counter rises by one each accepted step.
use Rattle.std.proofs.Common.{◌≡◌, ℕ, zero, suc, ◌+◌, ◌%◌, ◌^◌, Some, None, Option, Ok, Err, refl, sym, ap, ◌∙◌, arith}
use Rattle.bus.specs.Memory.{Memory}
use Rattle.isa.specs.declared.instruction.TlbOp.TheVariants.{Tlbsrch, Tlbrd, Tlbwr, Tlbfill}
use Rattle.tlb.specs.declared.invalidation.Invalidation.{Invalidation}
use Rattle.tlb.specs.Invalidating.{numbered}
use Rattle.control.specs.declared.number.Csr.{Csr}
use Rattle.control.specs.declared.number.Csr.TheVariants.{Crmd, Prmd, Euen, Ecfg, Estat, Era, Badv, Eentry, Tlbidx, Tlbehi, Tlbelo0, Tlbelo1, Asid, Pgdl, Pgdh, Pgd, Cpuid, Save0, Save1, Save2, Save3, Tid, Tcfg, Tval, Ticlr, Llbctl, Tlbrentry, Ctag, Dmw0, Dmw1}
use Rattle.control.specs.declared.registers.Registers.{Registers}
use Rattle.control.specs.Numbers.{csr_numbered}
use Rattle.control.specs.Registers.{written}
use Rattle.control.specs.Instructions.{csrrd, csrwr, exchanged}
use Rattle.actions.specs.declared.action.PrivilegedAction.{PrivilegedAction}
use Rattle.actions.specs.declared.action.PrivilegedAction.TheVariants as privileged
use Rattle.actions.specs.User.{virtual}
use Rattle.machine.specs.declared.answers.RunReport.{RunReport}
use Rattle.machine.specs.declared.state.State.{State}
use Rattle.machine.specs.Outcomes.{Outcome, StepAnswer}
use Rattle.machine.specs.Supervision.{invalidate, supervise}
use Rattle.machine.specs.Step.{acted, ended, step, ran_on, run_of}
use Rattle.machine.proofs.Ways.{acting, Way, raises, goes, supervises, writes, unread, unwritten, each_way}

abbrev pub counter : State → ℕ
counter s = s.registers.timer.counter

written_counter : (r : Registers) (csr : Csr) (word : ℕ) → (written r csr word).timer.counter ≡ r.timer.counter
written_counter r Crmd word = refl
written_counter r Prmd word = refl
written_counter r Euen word = refl
written_counter r Ecfg word = refl
written_counter r Estat word = refl
written_counter r Era word = refl
written_counter r Badv word = refl
written_counter r Eentry word = refl
written_counter r Tlbidx word = refl
written_counter r Tlbehi word = refl
written_counter r Tlbelo0 word = refl
written_counter r Tlbelo1 word = refl
written_counter r Asid word = refl
written_counter r Pgdl word = refl
written_counter r Pgdh word = refl
written_counter r Pgd word = refl
written_counter r Cpuid word = refl
written_counter r Save0 word = refl
written_counter r Save1 word = refl
written_counter r Save2 word = refl
written_counter r Save3 word = refl
written_counter r Tid word = refl
written_counter r Tcfg word = refl
written_counter r Tval word = refl
written_counter r Ticlr word = refl
written_counter r Llbctl word = refl
written_counter r Tlbrentry word = refl
written_counter r Ctag word = refl
written_counter r Dmw0 word = refl
written_counter r Dmw1 word = refl

csrwr_counter : (r : Registers) (csr : Option Csr) (word : ℕ) → (csrwr r csr word).timer.counter ≡ r.timer.counter
csrwr_counter r None word = refl
csrwr_counter r (Some csr) word = written_counter r csr word

invalidate_counter : (s : State) (which : Option Invalidation) → counter (invalidate s which).state ≡ counter s
invalidate_counter s None = refl
invalidate_counter s (Some which) = refl

supervise_counter : (s : State) (action : PrivilegedAction) → counter (supervise s action).state ≡ counter s
supervise_counter s (privileged.Csrrd rd csr) = refl
supervise_counter s (privileged.Csrwr rd csr value) = csrwr_counter s.registers (csr_numbered csr) value
supervise_counter s (privileged.Csrxchg rd csr value mask) =
    csrwr_counter s.registers (csr_numbered csr) (exchanged (csrrd s.registers (csr_numbered csr)) value mask)
supervise_counter s (privileged.Tlb Tlbsrch) = refl
supervise_counter s (privileged.Tlb Tlbrd) = refl
supervise_counter s (privileged.Tlb Tlbwr) = refl
supervise_counter s (privileged.Tlb Tlbfill) = refl
supervise_counter s (privileged.Invtlb op asid_word address) = invalidate_counter s (numbered op (asid_word % 2 ^ 10) (virtual address))
supervise_counter s privileged.Ertn = refl
supervise_counter s privileged.Idle = refl
supervise_counter s privileged.Cacop = refl

way_counter : (s : State) (levels : ℕ) (m : Memory) (o : Outcome StepAnswer) → Way s levels m o → counter o.state ≡ counter s
way_counter s levels m o (raises e) = refl
way_counter s levels m o (goes u link) = refl
way_counter s levels m o (supervises action level) = supervise_counter (acting s levels) action
way_counter s levels m o (writes u link place w v n call put_is) = refl
way_counter s levels m o (unread k place w e call got) = refl
way_counter s levels m o (unwritten place w v e call put_is) = refl

acted_counter : (s : State) (levels : ℕ) (m : Memory) → counter (acted s levels m).state ≡ counter s
acted_counter s levels m =
    each_way s levels m (λ o. counter o.state ≡ counter s) refl (λ o way. way_counter s levels m o way)

-- how many steps an answer is worth
abbrev worth : StepAnswer → ℕ
worth (Ok e) = 1
worth (Err e) = 0

ended_counter : (s : State) (m : Memory) (a : StepAnswer) (o : Outcome StepAnswer) → counter o.state ≡ counter s
    → counter (ended s m a o).state % 2 ^ 64 ≡ (counter s + worth a) % 2 ^ 64
ended_counter s m (Ok e) o same =
    let twice : (counter o.state + 1) % 2 ^ 64 % 2 ^ 64 ≡ (counter o.state + 1) % 2 ^ 64 = omega arith in
    twice ∙ ap (λ c. (c + 1) % 2 ^ 64) same
ended_counter s m (Err e) o same = let none : counter s ≡ counter s + 0 = omega arith in ap (λ c. c % 2 ^ 64) none

answer_of_ended : (s : State) (m : Memory) (a : StepAnswer) (o : Outcome StepAnswer) → (ended s m a o).answer ≡ a
answer_of_ended s m (Ok e) o = refl
answer_of_ended s m (Err e) o = refl

step_counter : (s : State) (levels : ℕ) (m : Memory)
    → counter (step s levels m).state % 2 ^ 64 ≡ (counter s + worth (step s levels m).answer) % 2 ^ 64
unfolding step
step_counter s levels m =
    let o = acted s levels m in
    ended_counter s m o.answer o (acted_counter s levels m)
    ∙ ap (λ a. (counter s + worth a) % 2 ^ 64) (sym (answer_of_ended s m o.answer o))

abbrev Counted : State → Outcome RunReport → Type 0
Counted s o = counter o.state % 2 ^ 64 ≡ (counter s + o.answer.steps) % 2 ^ 64

ran_on_counted : (s : State) (a : StepAnswer) (o : Outcome StepAnswer) (rest : Outcome RunReport)
    → counter o.state % 2 ^ 64 ≡ (counter s + worth a) % 2 ^ 64 → Counted o.state rest → Counted s (ran_on a o rest)
ran_on_counted s (Ok e) o rest one more = omega (arith, one, more)
ran_on_counted s (Err e) o rest one more = one

pub run_counted : (count levels : ℕ) (s : State) (m : Memory) → Counted s (run_of count levels s m)
run_counted zero levels s m = let none : counter s ≡ counter s + 0 = omega arith in ap (λ c. c % 2 ^ 64) none
run_counted (suc count) levels s m =
    let o = step s levels m in
    ran_on_counted s o.answer o (run_of count levels o.state o.memory) (step_counter s levels m) (run_counted count levels o.state o.memory)
