-- One step, as its parts leave it.
use Rattle.std.proofs.Common.{◌≡◌, ℕ, false, Some, Ok, Err, Result, refl, sym, ap, subst, ◌∙◌}
use Rattle.bus.specs.declared.address.PhysAddr.{PhysAddr}
use Rattle.bus.specs.declared.refusal.Refusal.{Refusal}
use Rattle.bus.specs.Memory.{Memory, write_of, answer_of, memory_after}
use Rattle.isa.specs.declared.instruction.Instruction.{Instruction}
use Rattle.isa.specs.declared.instruction.StoreOp.{StoreOp}
use Rattle.isa.specs.Decoding.{decode_of}
use Rattle.operations.specs.Operations.{store_width}
use Rattle.pages.specs.declared.access_kind.AccessKind.TheVariants as kind
use Rattle.pages.specs.declared.address.VirtAddr.{VirtAddr}
use Rattle.csr.specs.Interrupts.{due}
use Rattle.control.specs.declared.registers.Registers.{Registers}
use Rattle.control.specs.Exceptions.{with_levels, interrupted, registers_after_beat}
use Rattle.actions.specs.declared.action.Action.{Action}
use Rattle.actions.specs.declared.action.Action.TheVariants.{Store}
use Rattle.actions.specs.Plan.{plan}
use Rattle.machine.specs.declared.answers.Event.{Event}
use Rattle.machine.specs.declared.answers.StepRefusal.{StepRefusal}
use Rattle.machine.specs.declared.state.State.{State}
use Rattle.machine.specs.State.{advanced}
use Rattle.machine.specs.Access.{locate}
use Rattle.machine.specs.LoadsAndStores.{stored, store_to}
use Rattle.machine.specs.Outcomes.{Outcome, outcome, StepAnswer, at_place}
use Rattle.machine.specs.Execution.{perform, decoded}
use Rattle.machine.specs.Isolation.{LeadsNowhere, FetchesNothing}
use Rattle.machine.specs.Step.{keeps_waiting, act, acted, ended, step}
use Rattle.machine.proofs.Ways.{acting, Way, raises, goes, supervises, writes, unread, unwritten, each_way}

pub obeyed : (s : State) (m : Memory) (word : ℕ) (i : Instruction) (a : Action) (o : Outcome StepAnswer) → Some i ≡ decode_of word
    → a ≡ plan s.user s.registers.timer i → o ≡ perform s m a → o ≡ decoded s m (decode_of word)
obeyed s m word i a o is planned performed = performed ∙ ap (perform s m) planned ∙ ap (decoded s m) is

refused_store : (s after : State) (m n : Memory) (x : Result Memory Refusal) (e : Refusal) → Err e ≡ answer_of x → n ≡ memory_after m x
    → outcome (Err (record { by_bus = e; kind = kind.Store; pc = s.user.pc })) s n ≡ stored s after m x
refused_store s after m n (Ok k) e is left = absurd cc
refused_store s after m n (Err f) e is left = cc

pub unstored : (s : State) (m n : Memory) (op : StoreOp) (at : VirtAddr) (value : ℕ) (place : PhysAddr) (e : Refusal)
    → Ok place ≡ locate s kind.Store (store_width op) at → Err e ≡ answer_of (write_of m place.0 (store_width op) value)
    → n ≡ memory_after m (write_of m place.0 (store_width op) value)
    → outcome (Err (record { by_bus = e; kind = kind.Store; pc = s.user.pc })) s n ≡ perform s m (Store op at value)
unstored s m n op at value place e is told left =
    refused_store s (advanced s) m n (write_of m place.0 (store_width op) value) e told left ∙ ap (at_place s m (store_to s m op value)) is

-- the state and the memory that a refusal leaves
record Stays (s : State) (m : Memory) (o : Outcome StepAnswer) : Type 0 where
  state : o.state ≡ s
  memory : o.memory ≡ m

way_stays : (s : State) (levels : ℕ) (m : Memory) (o : Outcome StepAnswer) → Way s levels m o → (e : StepRefusal) → o.answer ≡ Err e → Stays (acting s levels) m o
way_stays s levels m o (raises x) e is = record { state = cc; memory = refl }
way_stays s levels m o (goes u link) e is = record { state = cc; memory = refl }
way_stays s levels m o (supervises action level) e is = record { state = cc; memory = refl }
way_stays s levels m o (writes u link place w v n call put) e is = record { state = cc; memory = cc }
way_stays s levels m o (unread k place w x call got) e is = record { state = refl; memory = refl }
way_stays s levels m o (unwritten place w v x call put) e is = record { state = refl; memory = refl }

acted_stays : (s : State) (levels : ℕ) (m : Memory) (e : StepRefusal) → (acted s levels m).answer ≡ Err e → Stays (acting s levels) m (acted s levels m)
acted_stays s levels m e is =
    each_way s levels m (λ o. o.answer ≡ Err e → Stays (acting s levels) m o) (λ told. record { state = cc; memory = refl })
    (λ o way. way_stays s levels m o way e) is

module _ (s : State) (levels : ℕ) (m : Memory) where
  pub accepted_step : (taken : Registers) (e : Event) (t : State) (n : Memory) (after : Registers) → taken ≡ with_levels s.registers levels
      → outcome (Ok e) t n ≡ act (record s { registers = taken }) m → after ≡ registers_after_beat t.registers
      → outcome (Ok e) (record t { registers = after }) n ≡ step s levels m
  unfolding step
  accepted_step taken e t n after at is beat =
      let acts : outcome (Ok e) t n ≡ acted s levels m = is ∙ ap (λ r. act (record s { registers = r }) m) at in
      ap (λ r. outcome (Ok e) (record t { registers = r }) n) beat ∙ ap (λ o. ended s m o.answer o) acts

  abbrev restored : State → State
  restored t = record t { registers = with_levels t.registers s.registers.interrupts.pending.hwi; activity = s.activity }

  pub refused_step : (taken : Registers) (e : StepRefusal) (t : State) (n : Memory) (after : Registers) → taken ≡ with_levels s.registers levels
      → outcome (Err e) t n ≡ act (record s { registers = taken }) m → after ≡ with_levels t.registers s.registers.interrupts.pending.hwi
      → outcome (Err e) (record t { registers = after; activity = s.activity }) n ≡ step s levels m
  unfolding step
  refused_step taken e t n after at is back =
      let acts : outcome (Err e) t n ≡ acted s levels m = is ∙ ap (λ r. act (record s { registers = r }) m) at in
      let answers : (acted s levels m).answer ≡ Err e = sym (ap (λ o. o.answer) acts) in
      let stays = acted_stays s levels m e answers in
      let state : t ≡ acting s levels = ap (λ o. o.state) acts ∙ stays.state in
      let memory : n ≡ m = ap (λ o. o.memory) acts ∙ stays.memory in
      ap (λ r. outcome (Err e) (record t { registers = r; activity = s.activity }) n) back
      ∙ ap (λ u. outcome (Err e) (restored u) n) state
      ∙ ap (λ k. outcome (Err e) s k) memory
      ∙ sym (ap (λ a. ended s m a (acted s levels m)) answers)

-- a step that fetches nothing, once the levels were taken
pub without_fetch : (s : State) (levels : ℕ) (taken : Registers) → taken ≡ with_levels s.registers levels → FetchesNothing s levels
    → keeps_waiting s.activity (due taken.interrupts) ≡ false → interrupted taken ≡ false → LeadsNowhere (record s { registers = taken })
without_fetch s levels taken at nothing =
    subst (λ (r : Registers). keeps_waiting s.activity (due r.interrupts) ≡ false → interrupted r ≡ false → LeadsNowhere (record s { registers = r }))
    (sym at) (λ acts undisturbed from leads. nothing from (record { acts = acts; undisturbed = undisturbed; leads = leads }))
