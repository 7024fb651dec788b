-- The laws of a step.
use Rattle.std.proofs.Common.{◌≡◌, ℕ, ◌%◌, ◌^◌, Bool, true, false, ◌⊎◌, Some, None, Option, Err, Result, IfOk, IfErr, refl, sym, ap, subst, ◌∙◌, arith}
use Rattle.std.proofs.lemmas.Bool.{both_ways, and_parts}
use Rattle.bus.specs.declared.address.PhysAddr.{PhysAddr}
use Rattle.bus.specs.declared.refusal.Refusal.{Refusal}
use Rattle.bus.specs.Rules.{Stands, ReadRule, WriteRule}
use Rattle.bus.specs.Rules as rule
use Rattle.bus.proofs.Ruling.{width_cases, read_rule, write_rule}
use Rattle.bus.specs.Memory.{Sound, answer_of, memory_after, Memory, read_of, write_of}
use Rattle.bus.specs.Refusals.{refusal_number, refusal_address}
use Rattle.pages.specs.declared.access_kind.AccessKind.{AccessKind}
use Rattle.pages.specs.declared.access_kind.AccessKind.TheVariants as kind
use Rattle.tlb.specs.declared.invalidation.Invalidation.{Invalidation}
use Rattle.tlb.specs.Invalidating.{numbered}
use Rattle.csr.specs.declared.exception.PageFault.{PageFault}
use Rattle.csr.specs.Interrupts.{due}
use Rattle.control.specs.Exceptions.{interrupted}
use Rattle.translation.specs.Translation.{Place}
use Rattle.translation.specs.Laws.{SameOffset}
use Rattle.translation.proofs.OnePage.{of_width}
use Rattle.translation.proofs.OneAddress.{same_offset}
use Rattle.actions.specs.declared.action.PrivilegedAction.{PrivilegedAction}
use Rattle.actions.specs.declared.action.PrivilegedAction.TheVariants.{Csrrd, Csrwr, Csrxchg, Tlb, Invtlb, Ertn, Idle, Cacop}
use Rattle.actions.specs.User.{virtual}
use Rattle.machine.specs.declared.state.Activity.{Activity}
use Rattle.machine.specs.declared.state.Activity.TheVariants.{Running, Waiting}
use Rattle.machine.specs.declared.state.State.{State}
use Rattle.machine.specs.Outcomes.{Outcome, StepAnswer, unasked}
use Rattle.machine.specs.Supervision.{invalidate, supervise}
use Rattle.machine.specs.Execution.{by_interrupt}
use Rattle.machine.specs.Step.{at_levels, keeps_waiting, awake, by_waiting, acted, ended, step}
use Rattle.machine.specs.Isolation.{CallsBus, by_fetch, by_access, Asks, by_call, StepIsolated, Confined}
use Rattle.machine.specs.Laws.{RefusedFor, missing, unwritable, Refused, IfException, HandlerBegins, InterruptTaken}
use Rattle.machine.proofs.Ways.{Way, raises, goes, supervises, writes, unread, unwritten, Led, led, each_way}
use Rattle.machine.proofs.Reaching.{low_32_bits, Located, located}
use Rattle.machine.proofs.Confining.{confined}
use Rattle.machine.proofs.Alikes.{step_isolated}

same_multiple : (p at w : ℕ) → (w ≡ 1) ⊎ ((w ≡ 2) ⊎ (w ≡ 4)) → p % 2 ^ 12 ≡ at % 2 ^ 12 → at % w ≡ 0 → p % w ≡ 0
same_multiple p at w is same =
    of_width (λ n. at % n ≡ 0 → p % n ≡ 0) w is (λ even. omega arith) (λ even. omega arith) (λ even. omega arith)

-- where an access leads, it is aligned too
place_stands : (s : State) (k : AccessKind) (w : ℕ) (to : PhysAddr) → Led s k w to → Stands to.0 w
place_stands s k w to led_to =
    let at = led_to.at in
    let found : Located s k w at to = located s k w at to led_to.leads in
    let same : SameOffset (low_32_bits at) to.0
    = subst (λ (r : Result Place PageFault). IfOk r (λ p. SameOffset (low_32_bits at) p.0.0)) found.leads
    (same_offset s.registers.mode s.registers.windows s.tlb k (low_32_bits at)) in
    (width_cases w led_to.is_wide, same_multiple to.0 (low_32_bits at) w (width_cases w led_to.is_wide) same found.aligned)

module _ (s : State) (levels : ℕ) (m : Memory) where
  -- an answer that the bus's rules give and that is a refusal
  read_reason : (to : PhysAddr) (w : ℕ) (k : AccessKind) (r : Result ℕ Refusal) (e : Refusal) → CallsBus s levels m k w to → ReadRule m to.0 w r
      → r ≡ Err e → RefusedFor s levels m (record { by_bus = e; kind = k; pc = s.user.pc })
  read_reason to w k r e call (rule.misaligned f none told) is = absurd (none (place_stands s k w to (led s levels m k w to call)))
  read_reason to w k r e call (rule.missing f x here low told) is =
      let same : f ≡ e = cc in
      missing w to x call low (ap refusal_number (sym same) ∙ told.0) (ap refusal_address (sym same) ∙ told.1)
  read_reason to w k r e call (rule.value v here none reads) is = absurd cc

  write_reason : (to : PhysAddr) (n : Memory) (w v : ℕ) (r : Result (Unit {0}) Refusal) (e : Refusal) → CallsBus s levels m kind.Store w to
      → WriteRule m to.0 w v r n → r ≡ Err e → RefusedFor s levels m (record { by_bus = e; kind = kind.Store; pc = s.user.pc })
  write_reason to n w v r e call (rule.misaligned f none told) is = absurd (none (place_stands s kind.Store w to (led s levels m kind.Store w to call)))
  write_reason to n w v r e call (rule.missing f x here low told) is =
      let same : f ≡ e = cc in
      missing w to x call low (ap refusal_number (sym same) ∙ told.0) (ap refusal_address (sym same) ∙ told.1)
  write_reason to n w v r e call (rule.unwritable f x here open_there low told) is =
      let same : f ≡ e = cc in
      unwritable w to x call refl open_there low (ap refusal_number (sym same) ∙ told.0) (ap refusal_address (sym same) ∙ told.1)
  write_reason to n w v r e call (rule.written k here some free replaced) is = absurd cc

module _ (s : State) (levels : ℕ) (m : Memory) (sound : Sound m) where
  abbrev RefusedBy : Outcome StepAnswer → Type 0
  RefusedBy o = IfErr o.answer (λ e. Refused s levels m e o.state o.memory)

  way_refused : (o : Outcome StepAnswer) → Way s levels m o → RefusedBy (ended s m o.answer o)
  way_refused o (raises e) = tt
  way_refused o (goes u link) = tt
  way_refused o (supervises action level) = tt
  way_refused o (writes u link place w v n call put_is) = tt
  way_refused o (unread k place w e call got) = record {
    reason = read_reason s levels m place w k (read_of m place.0 w) e call (read_rule m place.0 w sound (read_of m place.0 w) refl) got;
    pc = refl;
    state = refl;
    memory = refl;
  }
  way_refused o (unwritten place w v e call put_is) = record {
    reason = write_reason s levels m place (memory_after m (write_of m place.0 w v)) w v (answer_of (write_of m place.0 w v)) e call
        (write_rule m place.0 w v _ _ (record { answer = refl; after = refl })) (ap answer_of put_is);
    pc = refl;
    state = refl;
    memory = refl;
  }

  refused_by : RefusedBy (step s levels m)
  unfolding step
  refused_by = each_way s levels m (λ o. RefusedBy (ended s m o.answer o)) tt way_refused

module _ (s : State) (levels : ℕ) (m : Memory) where
  abbrev Handled : Outcome StepAnswer → Type 0
  Handled o = IfException o.answer (HandlerBegins s o.state)

  abbrev EndHandled : Outcome StepAnswer → Type 0
  EndHandled o = Handled (ended s m o.answer o)

  invalidate_handled : (which : Option Invalidation) → EndHandled (unasked (invalidate (awake (at_levels s levels)) which) m)
  invalidate_handled (Some which) = tt
  invalidate_handled None = record { plv = refl; ie = refl; era = refl }

  supervise_handled : (action : PrivilegedAction) → EndHandled (unasked (supervise (awake (at_levels s levels)) action) m)
  supervise_handled (Csrrd rd csr) = tt
  supervise_handled (Csrwr rd csr value) = tt
  supervise_handled (Csrxchg rd csr value mask) = tt
  supervise_handled (Tlb op) = tt
  supervise_handled (Invtlb op asid_word address) = invalidate_handled (numbered op (asid_word % 2 ^ 10) (virtual address))
  supervise_handled Ertn = tt
  supervise_handled Idle = tt
  supervise_handled Cacop = tt

  way_handled : (o : Outcome StepAnswer) → Way s levels m o → EndHandled o
  way_handled o (raises e) = record { plv = refl; ie = refl; era = refl }
  way_handled o (goes u link) = tt
  way_handled o (supervises action level) = supervise_handled action
  way_handled o (writes u link place w v n call put_is) = tt
  way_handled o (unread k place w e call got) = tt
  way_handled o (unwritten place w v e call put_is) = tt

  handled : Handled (step s levels m)
  unfolding step
  handled = each_way s levels m EndHandled tt way_handled

  module _ (taken : interrupted (at_levels s levels).registers ≡ true) where
    contrary : interrupted (at_levels s levels).registers ≡ false → ⊥
    contrary free = both_ways (interrupted (at_levels s levels).registers) free taken

    nothing_asked : (x : ℕ) → Asks s levels m x → ⊥
    nothing_asked x (by_call k w to (by_fetch from fetches) names) = contrary fetches.undisturbed
    nothing_asked x (by_call k w to (by_access action l v at place asks_for accesses leads) names) = contrary asks_for.fetches.undisturbed

    acts_at_once : (activity : Activity) (due_now : Bool) → due_now ≡ true → keeps_waiting activity due_now ≡ false
    acts_at_once Running due_now is = refl
    acts_at_once Waiting true is = refl
    acts_at_once Waiting false is = sym is

    interrupt_acts : acted s levels m ≡ by_interrupt true (awake (at_levels s levels)) m
    interrupt_acts =
        let parts = and_parts (at_levels s levels).registers.mode.ie (due (at_levels s levels).registers.interrupts) taken in
        ap (λ waits. by_waiting waits (at_levels s levels) m) (acts_at_once s.activity (due (at_levels s levels).registers.interrupts) parts.1)
        ∙ ap (λ is. by_interrupt is (awake (at_levels s levels)) m) taken

    interrupt_taken : InterruptTaken s levels m (step s levels m)
    unfolding step
    interrupt_taken = record {
      answer = ap (λ (o : Outcome StepAnswer). (ended s m o.answer o).answer) interrupt_acts;
      asks_nothing = nothing_asked;
      memory = ap (λ (o : Outcome StepAnswer). (ended s m o.answer o).memory) interrupt_acts;
    }

-- all that is promised of a step
pub record LawfulStep (s : State) (levels : ℕ) (m : Memory) (o : Outcome StepAnswer) : Type 0 where
  pub refused : IfErr o.answer (λ e. Refused s levels m e o.state o.memory)
  pub exception : IfException o.answer (HandlerBegins s o.state)
  pub interrupt : interrupted (at_levels s levels).registers ≡ true → InterruptTaken s levels m o
  pub isolated : StepIsolated s levels m o
  pub confined : Confined s m o

pub lawful_step : {s t : State} {m : Memory} {o : Outcome StepAnswer} (levels : ℕ) → Sound m → t ≡ s → o ≡ step t levels m → LawfulStep s levels m o
lawful_step {s} {t} {m} {o} levels sound same is =
    let here : o ≡ step s levels m = is ∙ ap (λ (u : State). step u levels m) same in
    subst (LawfulStep s levels m) (sym here) (record {
      refused = refused_by s levels m sound;
      exception = handled s levels m;
      interrupt = interrupt_taken s levels m;
      isolated = step_isolated s levels m;
      confined = confined s levels m;
    })
