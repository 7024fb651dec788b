-- A step on two memories that agree on all bytes but withheld ones.
use Rattle.std.proofs.Common.{◌≡◌, ℕ, Bool, true, false, Some, None, Option, Ok, Err, Result, refl, sym, ap, subst, ◌∙◌}
use Rattle.bus.specs.declared.address.PhysAddr.{PhysAddr}
use Rattle.bus.specs.declared.refusal.Refusal.{Refusal}
use Rattle.bus.specs.Memory.{Memory, within, read_of, write_of}
use Rattle.bus.specs.Rules.{Names}
use Rattle.bus.proofs.Accesses.{within_bounds}
use Rattle.isa.specs.declared.instruction.Instruction.{Instruction}
use Rattle.isa.specs.declared.register.Reg.{Reg}
use Rattle.isa.specs.Decoding.{decode_of}
use Rattle.operations.specs.Operations.{load_width, load_result, store_width}
use Rattle.pages.specs.declared.address.VirtAddr.{VirtAddr}
use Rattle.pages.specs.declared.access_kind.AccessKind.{AccessKind}
use Rattle.pages.specs.declared.access_kind.AccessKind.TheVariants as kind
use Rattle.pages.specs.declared.privilege.Privilege.{Privilege}
use Rattle.pages.specs.declared.privilege.Privilege.TheVariants.{Plv0, Plv3}
use Rattle.csr.specs.declared.exception.Exception.{Exception}
use Rattle.csr.specs.declared.exception.Exception.TheVariants.{Int, Ine}
use Rattle.csr.specs.Interrupts.{due}
use Rattle.control.specs.Exceptions.{interrupted}
use Rattle.actions.specs.declared.action.Action.{Action}
use Rattle.actions.specs.declared.action.Action.TheVariants.{Write, Go, Load, Store, LoadLinked, StoreConditional, Probe, Raise, Privileged}
use Rattle.actions.specs.Plan.{plan}
use Rattle.machine.specs.declared.answers.Event.TheVariants as event
use Rattle.machine.specs.declared.state.State.{State}
use Rattle.machine.specs.State.{advanced, with_result}
use Rattle.machine.specs.Access.{locate}
use Rattle.machine.specs.Outcomes.{Outcome, with_answer, StepAnswer, Settled, settled, unasked, raise, refused, at_place}
use Rattle.machine.specs.LoadsAndStores.{loaded, load_from, stored, store_to, with_link, load_linked_from, unlinked, store_conditional_to, probe}
use Rattle.machine.specs.Supervision.{by_privilege}
use Rattle.machine.specs.Execution.{perform, decoded, fetched, fetch_from, by_interrupt}
use Rattle.machine.specs.Step.{at_levels, keeps_waiting, by_waiting, acted, ended, step}
use Rattle.machine.specs.Isolation.{Fetches, AsksFor, Accesses, loads, stores, loads_linked, stores_linked, by_fetch, by_access, Asks, by_call, Withheld, Agree, Alike, StepIsolated}
use Rattle.machine.proofs.Bytes.{Both, written, SameAt, read_same, write_both}
use Rattle.machine.proofs.Bytes as bytes
use Rattle.machine.proofs.Ways.{acting, accesses_before}
use Rattle.machine.proofs.Reaching.{asked_reached}

not_true : (b : Bool) → (b ≡ true → ⊥) → b ≡ false
not_true true h = absurd (h refl)
not_true false h = refl

module _ (withheld : ℕ → Bool) (m n : Memory) (agree : Agree withheld m n) where
  abbrev pub Same : {A : Type 0} → Outcome A → Outcome A → Type 0
  Same left right = Alike withheld m n left right

  -- none of the bytes of an access is withheld
  abbrev Clear : PhysAddr → ℕ → Type 0
  Clear to w = (x : ℕ) → Names to.0 w x → withheld x ≡ false

  clear_same : (to : PhysAddr) (w : ℕ) → Clear to w → SameAt m n to.0 w
  clear_same to w clear x names = agree x (clear x names)

  -- a withheld byte is none of theirs
  apart : (to : PhysAddr) (w x : ℕ) → Clear to w → withheld x ≡ true → within to.0 w x ≡ false
  apart to w x clear held = not_true (within to.0 w x) (λ inside.
      let free : withheld x ≡ false = clear x (within_bounds to.0 w x inside) in
      let z : true ≡ false = sym held ∙ free in
      absurd cc)

  pub unmoved : {A : Type 0} (a : A) (s : State) → Same (record { answer = a; state = s; memory = m }) (record { answer = a; state = s; memory = n })
  unmoved a s = record { answers = refl; cores = refl; others = agree; left_kept = λ x h. refl; right_kept = λ x h. refl }

  unasked_same : (x : Settled) → Same (unasked x m) (unasked x n)
  unasked_same x = unmoved (Ok x.event) x.state

  refused_same : (s : State) (k : AccessKind) (e : Refusal) → Same (refused s k e m) (refused s k e n)
  refused_same s k e = unmoved _ s

  at_place_same : (s : State) (act there : PhysAddr → Outcome StepAnswer) (to : Result PhysAddr Exception)
      → ((at : PhysAddr) → to ≡ Ok at → Same (act at) (there at)) → Same (at_place s m act to) (at_place s n there to)
  at_place_same s act there (Ok at) h = h at refl
  at_place_same s act there (Err e) h = unasked_same (raise s e)

  loaded_same : (s : State) (after : ℕ → State) (r : Result ℕ Refusal) → Same (loaded s m after r) (loaded s n after r)
  loaded_same s after (Ok value) = unasked_same _
  loaded_same s after (Err e) = refused_same s kind.Load e

  load_same : (s : State) (after : ℕ → State) (to : PhysAddr) (w : ℕ) → Clear to w → Same (loaded s m after (read_of m to.0 w)) (loaded s n after (read_of n to.0 w))
  load_same s after to w clear =
      subst (λ (r : Result ℕ Refusal). Same (loaded s m after (read_of m to.0 w)) (loaded s n after r)) (read_same m n to.0 w (clear_same to w clear))
      (loaded_same s after (read_of m to.0 w))

  stored_same : (s after : State) (to : PhysAddr) (w : ℕ) (r q : Result Memory Refusal) → Clear to w → Both m n to.0 w r q
      → Same (stored s after m r) (stored s after n q)
  stored_same s after to w r q clear (written k l alike left right) = record {
    answers = refl;
    cores = refl;
    others = λ x free. alike x (agree x free);
    left_kept = λ x held. left x (apart to w x clear held);
    right_kept = λ x held. right x (apart to w x clear held);
  }
  stored_same s after to w r q clear (bytes.refused e) = refused_same s kind.Store e

  store_same : (s after : State) (to : PhysAddr) (w v : ℕ) → Clear to w
      → Same (stored s after m (write_of m to.0 w v)) (stored s after n (write_of n to.0 w v))
  store_same s after to w v clear = stored_same s after to w _ _ clear (write_both m n to.0 w v (clear_same to w clear))

  conditional_same : (s : State) (rd : Reg) (value : ℕ) (link : Bool) (to : PhysAddr) → (link ≡ true → Clear to 4)
      → Same (store_conditional_to s m rd value link to) (store_conditional_to s n rd value link to)
  conditional_same s rd value true to clear = store_same s (unlinked s rd) to 4 value (clear refl)
  conditional_same s rd value false to clear = unasked_same _

  -- what an action would ask for is clear
  abbrev Free : State → Action → Type 0
  Free s action = (k : AccessKind) (w : ℕ) (at : VirtAddr) (to : PhysAddr) → Accesses s action k w at → locate s k w at ≡ Ok to → Clear to w

  perform_same : (s : State) (action : Action) → Free s action → Same (perform s m action) (perform s n action)
  perform_same s (Write rd value next) free = unasked_same _
  perform_same s (Go next) free = unasked_same _
  perform_same s (Load op rd at) free = at_place_same s (load_from s m op rd) (load_from s n op rd) (locate s kind.Load (load_width op) at)
      (λ to is. load_same s (λ value. with_result s rd (load_result op value)) to (load_width op) (free kind.Load (load_width op) at to (loads op rd at) is))
  perform_same s (Store op at value) free = at_place_same s (store_to s m op value) (store_to s n op value) (locate s kind.Store (store_width op) at)
      (λ to is. store_same s (advanced s) to (store_width op) value (free kind.Store (store_width op) at to (stores op at value) is))
  perform_same s (LoadLinked rd at) free = at_place_same s (load_linked_from s m rd) (load_linked_from s n rd) (locate s kind.Load 4 at)
      (λ to is. load_same s (λ value. with_link (with_result s rd value) true) to 4 (free kind.Load 4 at to (loads_linked rd at) is))
  perform_same s (StoreConditional rd at value) free =
      at_place_same s (store_conditional_to s m rd value s.registers.link) (store_conditional_to s n rd value s.registers.link) (locate s kind.Store 4 at)
      (λ to is. conditional_same s rd value s.registers.link to (λ link. free kind.Store 4 at to (stores_linked rd at value link) is))
  perform_same s (Probe at) free = unasked_same (probe s (locate s kind.Load 1 at))
  perform_same s (Raise e) free = unasked_same (raise s e)
  perform_same s (Privileged action) free = unasked_same (by_privilege s.registers.mode.plv s action)

  module _ (s : State) (levels : ℕ) (free : (x : ℕ) → Asks s levels m x → withheld x ≡ false) where
    decoded_same : (from : PhysAddr) (word : ℕ) → Fetches s levels from → read_of m from.0 4 ≡ Ok word → (i : Option Instruction) → decode_of word ≡ i
        → Same (decoded (acting s levels) m i) (decoded (acting s levels) n i)
    decoded_same from word fetches reads None is = unasked_same (raise (acting s levels) Ine)
    decoded_same from word fetches reads (Some i) is =
        let action : Action = plan s.user s.registers.timer i in
        let asks_for : AsksFor s levels m action = record { from = from; word = word; instruction = i; fetches = fetches; reads = reads; is = is; means = refl } in
        perform_same (acting s levels) action (λ k w at to a leads x names.
        free x (by_call k w to (by_access action k w at to asks_for (accesses_before s levels action k w at a) leads) names))

    fetched_same : (from : PhysAddr) → Fetches s levels from → (r : Result ℕ Refusal) → read_of m from.0 4 ≡ r
        → Same (fetched (acting s levels) m r) (fetched (acting s levels) n r)
    fetched_same from fetches (Ok word) e = decoded_same from word fetches e (decode_of word) refl
    fetched_same from fetches (Err x) e = refused_same (acting s levels) kind.Fetch x

    fetch_from_same : (from : PhysAddr) → Fetches s levels from → Same (fetch_from (acting s levels) m from) (fetch_from (acting s levels) n from)
    fetch_from_same from fetches =
        subst (λ (r : Result ℕ Refusal). Same (fetch_from (acting s levels) m from) (fetched (acting s levels) n r))
        (read_same m n from.0 4 (clear_same from 4 (λ x names. free x (by_call kind.Fetch 4 from (by_fetch from fetches) names))))
        (fetched_same from fetches (read_of m from.0 4) refl)

    interrupt_same : (taken : Bool) → keeps_waiting s.activity (due (at_levels s levels).registers.interrupts) ≡ false
        → interrupted (at_levels s levels).registers ≡ taken → Same (by_interrupt taken (acting s levels) m) (by_interrupt taken (acting s levels) n)
    interrupt_same true acts e = unasked_same (raise (acting s levels) Int)
    interrupt_same false acts e = at_place_same (acting s levels) (fetch_from (acting s levels) m) (fetch_from (acting s levels) n) (locate s kind.Fetch 4 s.user.pc)
        (λ from is. fetch_from_same from (record { acts = acts; undisturbed = e; leads = is }))

    waiting_same : (waits : Bool) → keeps_waiting s.activity (due (at_levels s levels).registers.interrupts) ≡ waits
        → Same (by_waiting waits (at_levels s levels) m) (by_waiting waits (at_levels s levels) n)
    waiting_same true e = unasked_same (settled event.Waiting (at_levels s levels))
    waiting_same false e = interrupt_same (interrupted (at_levels s levels).registers) e refl

    acted_same : Same (acted s levels m) (acted s levels n)
    acted_same = waiting_same (keeps_waiting s.activity (due (at_levels s levels).registers.interrupts)) refl

  ended_same : (s : State) (left right : Outcome StepAnswer) (a : StepAnswer) → Same left right → Same (ended s m a left) (ended s n a right)
  ended_same s left right (Ok e) same = record {
    answers = refl;
    cores = ap (λ (t : State). (ended s m (Ok e) (record left { state = t })).state) same.cores;
    others = same.others;
    left_kept = same.left_kept;
    right_kept = same.right_kept;
  }
  ended_same s left right (Err e) same = unmoved (Err e) s

  step_same : (s : State) (levels : ℕ) → ((x : ℕ) → Asks s levels m x → withheld x ≡ false) → Same (step s levels m) (step s levels n)
  unfolding step
  step_same s levels free =
      let same : Same (acted s levels m) (acted s levels n) = acted_same s levels free in
      subst (λ (a : StepAnswer). Same (step s levels m) (ended s n a (acted s levels n))) same.answers
      (ended_same s (acted s levels m) (acted s levels n) (acted s levels m).answer same)

-- bytes that are withheld from a step are none that it asks for
free_of : (withheld : ℕ → Bool) (s : State) (levels : ℕ) (m : Memory) → Withheld withheld s levels m → (x : ℕ) → Asks s levels m x → withheld x ≡ false
free_of withheld s levels m held x asks = not_true (withheld x) (go s.registers.mode.plv refl)
  where
    go : (level : Privilege) → s.registers.mode.plv ≡ level → withheld x ≡ true → ⊥
    go Plv0 e in_it = held.of_plv0 e x in_it asks
    go Plv3 e in_it = held.of_plv3 e x in_it (asked_reached s e levels m x asks)

module _ (withheld : ℕ → Bool) (m n : Memory) where
  pub with_answer_alike : {A B : Type 0} (f : A → B) (left right : Outcome A) → Alike withheld m n left right
      → Alike withheld m n (with_answer f left) (with_answer f right)
  with_answer_alike f left right same = record {
    answers = ap f same.answers;
    cores = same.cores;
    others = same.others;
    left_kept = same.left_kept;
    right_kept = same.right_kept;
  }

  -- what is alike behind outcomes that are alike
  pub alike_onwards : {A B : Type 0} (o p : Outcome A) (left right : Outcome B) → Alike withheld m n o p
      → Alike withheld o.memory p.memory left right → Alike withheld m n left right
  alike_onwards o p left right one more = record {
    answers = more.answers;
    cores = more.cores;
    others = more.others;
    left_kept = λ x held. more.left_kept x held ∙ one.left_kept x held;
    right_kept = λ x held. more.right_kept x held ∙ one.right_kept x held;
  }

pub step_isolated : (s : State) (levels : ℕ) (m : Memory) → StepIsolated s levels m (step s levels m)
step_isolated s levels m withheld n agree held = step_same withheld m n agree s levels (free_of withheld s levels m held)
