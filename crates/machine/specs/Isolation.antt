-- Which bytes a step asks the bus for, which a program reaches, and what a step of PLV3 alters.
use Rattle.std.specs.Prelude.{◌≡◌, ℕ, ◌^◌, ◌<◌, Bool, true, false, ◌⊎◌, Some, Ok}
use Rattle.bus.specs.declared.address.PhysAddr.{PhysAddr}
use Rattle.bus.specs.Memory.{Memory, read_of}
use Rattle.bus.specs.Rules.{Names}
use Rattle.isa.specs.declared.instruction.Instruction.{Instruction}
use Rattle.isa.specs.declared.instruction.LoadOp.{LoadOp}
use Rattle.isa.specs.declared.instruction.StoreOp.{StoreOp}
use Rattle.isa.specs.declared.register.Reg.{Reg}
use Rattle.isa.specs.Decoding.{decode_of}
use Rattle.operations.specs.Operations.{load_width, store_width}
use Rattle.pages.specs.declared.address.VirtAddr.{VirtAddr}
use Rattle.pages.specs.declared.access_kind.AccessKind.{AccessKind}
use Rattle.pages.specs.declared.access_kind.AccessKind.TheVariants as kind
use Rattle.pages.specs.declared.privilege.Privilege.TheVariants.{Plv0, Plv3}
use Rattle.csr.specs.declared.mode.Mode.{Mode}
use Rattle.csr.specs.Interrupts.{due}
use Rattle.control.specs.declared.registers.Registers.{Registers}
use Rattle.control.specs.Exceptions.{interrupted}
use Rattle.translation.specs.Translation.{place, translation}
use Rattle.actions.specs.declared.action.Action.{Action}
use Rattle.actions.specs.declared.action.Action.TheVariants.{Load, Store, LoadLinked, StoreConditional}
use Rattle.actions.specs.Plan.{plan}
use Rattle.machine.specs.declared.state.State.{State}
use Rattle.machine.specs.Access.{locate}
use Rattle.machine.specs.Outcomes.{Outcome, StepAnswer}
use Rattle.machine.specs.Step.{at_levels, keeps_waiting, step}

-- the step that begins here fetches its instruction from there: it does not go on waiting, no interrupt is taken, and the PC leads there
pub record Fetches (s : State) (levels : ℕ) (from : PhysAddr) : Type 0 where
  pub acts : keeps_waiting s.activity (due (at_levels s levels).registers.interrupts) ≡ false
  pub undisturbed : interrupted (at_levels s levels).registers ≡ false
  pub leads : locate s kind.Fetch 4 s.user.pc ≡ Ok from

-- the PC leads to no physical address: it is no multiple of 4, or it is not translated
abbrev pub LeadsNowhere : State → Type 0
LeadsNowhere s = (from : PhysAddr) → locate s kind.Fetch 4 s.user.pc ≡ Ok from → ⊥

-- the step that begins here fetches no instruction
abbrev pub FetchesNothing : State → ℕ → Type 0
FetchesNothing s levels = (from : PhysAddr) → Fetches s levels from → ⊥

-- the instruction that it fetches asks for this
pub record AsksFor (s : State) (levels : ℕ) (m : Memory) (action : Action) : Type 0 where
  pub from : PhysAddr
  pub word : ℕ
  pub instruction : Instruction
  pub fetches : Fetches s levels from
  pub reads : read_of m from.0 4 ≡ Ok word
  pub is : decode_of word ≡ Some instruction
  pub means : plan s.user s.registers.timer instruction ≡ action

-- a load or store of so many bytes at an address; SC.W is one if the link is 1
pub data Accesses (s : State) : Action → AccessKind → ℕ → VirtAddr → Type 0 where
  loads : (op : LoadOp) (rd : Reg) (at : VirtAddr) → Accesses s (Load op rd at) kind.Load (load_width op) at
  stores : (op : StoreOp) (at : VirtAddr) (value : ℕ) → Accesses s (Store op at value) kind.Store (store_width op) at
  loads_linked : (rd : Reg) (at : VirtAddr) → Accesses s (LoadLinked rd at) kind.Load 4 at
  stores_linked : (rd : Reg) (at : VirtAddr) (value : ℕ) → s.registers.link ≡ true → Accesses s (StoreConditional rd at value) kind.Store 4 at

-- the step that begins here calls the bus for w bytes at a place: for its fetch, or for its load or store, also where the bus refuses it
pub data CallsBus (s : State) (levels : ℕ) (m : Memory) : AccessKind → ℕ → PhysAddr → Type 0 where
  by_fetch : (from : PhysAddr) → Fetches s levels from → CallsBus s levels m kind.Fetch 4 from
  by_access : (action : Action) (k : AccessKind) (w : ℕ) (at : VirtAddr) (to : PhysAddr) → AsksFor s levels m action
      → Accesses s action k w at → locate s k w at ≡ Ok to → CallsBus s levels m k w to

-- the step that begins here asks the bus for the byte x
pub data Asks (s : State) (levels : ℕ) (m : Memory) (x : ℕ) : Type 0 where
  by_call : (k : AccessKind) (w : ℕ) (to : PhysAddr) → CallsBus s levels m k w to → Names to.0 w x → Asks s levels m x

abbrev pub in_plv3 : Mode → Mode
in_plv3 mode = record mode { plv = Plv3 }

-- an address reaches the byte x for PLV3: a byte load, or store, at that address in PLV3 is translated to x now
pub record Reaches (s : State) (k : AccessKind) (x : ℕ) : Type 0 where
  pub at : ℕ
  pub mat : ℕ
  pub word : at < 2 ^ 32
  pub leads : translation (in_plv3 s.registers.mode) s.registers.windows s.tlb k at ≡ Ok (place x mat)

-- bytes are withheld from the step that begins here: one of PLV0 asks for none of them, and for one of PLV3 no address reaches any
pub record Withheld (withheld : ℕ → Bool) (s : State) (levels : ℕ) (m : Memory) : Type 0 where
  pub of_plv0 : s.registers.mode.plv ≡ Plv0 → (x : ℕ) → withheld x ≡ true → Asks s levels m x → ⊥
  pub of_plv3 : s.registers.mode.plv ≡ Plv3 → (x : ℕ) → withheld x ≡ true → Reaches s kind.Load x → ⊥

-- two memories agree on every byte that is not withheld: it is absent in both, or fixed in both or open in both with one value
abbrev pub Agree : (ℕ → Bool) → Memory → Memory → Type 0
Agree withheld m n = (x : ℕ) → withheld x ≡ false → m x ≡ n x

-- n has the withheld bytes that m has
abbrev pub Kept : (ℕ → Bool) → Memory → Memory → Type 0
Kept withheld m n = (x : ℕ) → withheld x ≡ true → n x ≡ m x

-- what two machines came to that began with the memories m and n: answers, cores and all other bytes are equal, and each machine's
-- withheld bytes are as they were
pub record Alike (withheld : ℕ → Bool) (m n : Memory) {A : Type 0} (left right : Outcome A) : Type 0 where
  pub answers : left.answer ≡ right.answer
  pub cores : left.state ≡ right.state
  pub others : Agree withheld left.memory right.memory
  pub left_kept : Kept withheld m left.memory
  pub right_kept : Kept withheld n right.memory

-- whatever bytes are withheld from the step that begins here, it is alike on every memory that agrees on the others
abbrev pub StepIsolated : State → ℕ → Memory → Outcome StepAnswer → Type 0
StepIsolated s levels m left =
    (withheld : ℕ → Bool) (n : Memory) → Agree withheld m n → Withheld withheld s levels m → Alike withheld m n left (step s levels n)

-- no control register is altered but TVAL, ESTAT's IS and LLBCTL's link; the 64-bit counter, kept beside TVAL, is no control register
abbrev pub OnlyTimerInterruptsAndLink : Registers → Registers → Type 0
OnlyTimerInterruptsAndLink old new = new ≡ record old {
  timer = record old.timer { counter = new.timer.counter; tval = new.timer.tval };
  interrupts = record old.interrupts { pending = new.interrupts.pending };
  link = new.link;
}

-- what a step may alter that begins and ends in PLV3: of memory only bytes that PLV3 may store to as it begins
pub record UserStep (s : State) (m : Memory) (o : Outcome StepAnswer) : Type 0 where
  pub tlb : o.state.tlb ≡ s.tlb
  pub registers : OnlyTimerInterruptsAndLink s.registers o.state.registers
  pub bytes : (x : ℕ) → (o.memory x ≡ m x) ⊎ Reaches s kind.Store x

abbrev pub Confined : State → Memory → Outcome StepAnswer → Type 0
Confined s m o = s.registers.mode.plv ≡ Plv3 → o.state.registers.mode.plv ≡ Plv3 → UserStep s m o
