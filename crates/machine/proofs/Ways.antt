-- In which ways a step can end that acts: an exception, a change of what every program may change, what PLV0 alone may do, a store, or a refusal.
use Rattle.std.proofs.Common.{◌≡◌, ℕ, Bool, true, false, Some, None, Option, Ok, Err, Result, refl}
use Rattle.bus.specs.declared.address.PhysAddr.{PhysAddr}
use Rattle.bus.specs.declared.refusal.Refusal.{Refusal}
use Rattle.bus.specs.Memory.{Memory, is_width, read_of, write_of}
use Rattle.isa.specs.declared.instruction.Instruction.{Instruction}
use Rattle.isa.specs.declared.instruction.LoadOp.{LoadOp}
use Rattle.isa.specs.declared.instruction.LoadOp.TheVariants.{LdB, LdH, LdW, LdBu, LdHu}
use Rattle.isa.specs.declared.instruction.StoreOp.{StoreOp}
use Rattle.isa.specs.declared.instruction.StoreOp.TheVariants.{StB, StH, StW}
use Rattle.isa.specs.declared.register.Reg.{Reg}
use Rattle.isa.specs.Decoding.{decode_of}
use Rattle.operations.specs.Operations.{load_width, load_result, store_width}
use Rattle.pages.specs.declared.address.VirtAddr.{VirtAddr}
use Rattle.pages.specs.declared.access_kind.AccessKind.{AccessKind}
use Rattle.pages.specs.declared.access_kind.AccessKind.TheVariants as kind
use Rattle.pages.specs.declared.privilege.Privilege.{Privilege}
use Rattle.pages.specs.declared.privilege.Privilege.TheVariants.{Plv0, Plv3}
use Rattle.csr.specs.declared.exception.Exception.{Exception}
use Rattle.csr.specs.declared.exception.Exception.TheVariants.{Int, Ine, Ipe}
use Rattle.csr.specs.Interrupts.{due}
use Rattle.control.specs.Exceptions.{interrupted}
use Rattle.actions.specs.declared.action.Action.{Action}
use Rattle.actions.specs.declared.action.Action.TheVariants.{Write, Go, Load, Store, LoadLinked, StoreConditional, Probe, Raise, Privileged}
use Rattle.actions.specs.declared.action.PrivilegedAction.{PrivilegedAction}
use Rattle.actions.specs.declared.user.UserState.{UserState}
use Rattle.actions.specs.Plan.{plan}
use Rattle.machine.specs.declared.answers.Event.TheVariants as event
use Rattle.machine.specs.declared.state.State.{State}
use Rattle.machine.specs.State.{advanced, with_result}
use Rattle.machine.specs.Access.{locate}
use Rattle.machine.specs.Outcomes.{Outcome, StepAnswer, settled, unasked, done, raise, refused, at_place}
use Rattle.machine.specs.LoadsAndStores.{loaded, load_from, stored, store_to, load_linked_from, unlinked, store_conditional_to, probe}
use Rattle.machine.specs.Supervision.{supervise, by_privilege}
use Rattle.machine.specs.Execution.{perform, decoded, fetched, fetch_from, by_interrupt, execute}
use Rattle.machine.specs.Step.{at_levels, keeps_waiting, awake, by_waiting, acted}
use Rattle.machine.specs.Isolation.{Fetches, AsksFor, Accesses, loads, stores, loads_linked, stores_linked, CallsBus, by_fetch, by_access}

-- what every program may change
abbrev pub with_user : State → UserState → Bool → State
with_user s u link = record s { user = u; registers = record s.registers { link = link } }

-- the state in which a step acts that does not go on waiting
abbrev pub acting : State → ℕ → State
acting s levels = awake (at_levels s levels)

-- the ways in which a step that acts can end, before its beat
pub data Way (s : State) (levels : ℕ) (m : Memory) : Outcome StepAnswer → Type 0 where
  raises : (e : Exception) → Way s levels m (unasked (raise (acting s levels) e) m)
  goes : (u : UserState) (link : Bool) → Way s levels m (unasked (done (with_user (acting s levels) u link)) m)
  supervises : (action : PrivilegedAction) → s.registers.mode.plv ≡ Plv0 → Way s levels m (unasked (supervise (acting s levels) action) m)
  writes : (u : UserState) (link : Bool) (place : PhysAddr) (w v : ℕ) (n : Memory) → CallsBus s levels m kind.Store w place
      → write_of m place.0 w v ≡ Ok n → Way s levels m (unasked (done (with_user (acting s levels) u link)) n)
  unread : (k : AccessKind) (place : PhysAddr) (w : ℕ) (e : Refusal) → CallsBus s levels m k w place
      → read_of m place.0 w ≡ Err e → Way s levels m (refused (acting s levels) k e m)
  unwritten : (place : PhysAddr) (w v : ℕ) (e : Refusal) → CallsBus s levels m kind.Store w place
      → write_of m place.0 w v ≡ Err e → Way s levels m (refused (acting s levels) kind.Store e m)

load_is_width : (op : LoadOp) → is_width (load_width op) ≡ true
load_is_width LdB = refl
load_is_width LdH = refl
load_is_width LdW = refl
load_is_width LdBu = refl
load_is_width LdHu = refl

store_is_width : (op : StoreOp) → is_width (store_width op) ≡ true
store_is_width StB = refl
store_is_width StH = refl
store_is_width StW = refl

-- the width of a call, and the address that leads to its place
pub record Led (s : State) (k : AccessKind) (w : ℕ) (to : PhysAddr) : Type 0 where
  pub is_wide : is_width w ≡ true
  pub at : VirtAddr
  pub leads : locate s k w at ≡ Ok to

access_wide : (s : State) (action : Action) (k : AccessKind) (w : ℕ) (at : VirtAddr) → Accesses s action k w at → is_width w ≡ true
access_wide s action k w at (loads op rd a) = load_is_width op
access_wide s action k w at (stores op a value) = store_is_width op
access_wide s action k w at (loads_linked rd a) = refl
access_wide s action k w at (stores_linked rd a value link) = refl

pub led : (s : State) (levels : ℕ) (m : Memory) (k : AccessKind) (w : ℕ) (to : PhysAddr) → CallsBus s levels m k w to → Led s k w to
led s levels m k w to (by_fetch from fetches) = record { is_wide = refl; at = s.user.pc; leads = fetches.leads }
led s levels m k w to (by_access action l v at place asks_for accesses leads) =
    record { is_wide = access_wide s action l v at accesses; at = at; leads = leads }

-- the link is the same while the step acts
pub accesses_before : (s : State) (levels : ℕ) (action : Action) (k : AccessKind) (w : ℕ) (at : VirtAddr) → Accesses (acting s levels) action k w at
    → Accesses s action k w at
accesses_before s levels action k w at (loads op rd a) = loads op rd a
accesses_before s levels action k w at (stores op a value) = stores op a value
accesses_before s levels action k w at (loads_linked rd a) = loads_linked rd a
accesses_before s levels action k w at (stores_linked rd a value link) = stores_linked rd a value link

module _ (s : State) (levels : ℕ) (m : Memory) where
  at_place_way : (act : PhysAddr → Outcome StepAnswer) (to : Result PhysAddr Exception)
      → ((place : PhysAddr) → to ≡ Ok place → Way s levels m (act place)) → Way s levels m (at_place (acting s levels) m act to)
  at_place_way act (Ok place) h = h place refl
  at_place_way act (Err e) h = raises e

  loaded_way : (u : ℕ → UserState) (link : Bool) (place : PhysAddr) (w : ℕ) → CallsBus s levels m kind.Load w place
      → (r : Result ℕ Refusal) → read_of m place.0 w ≡ r → Way s levels m (loaded (acting s levels) m (λ value. with_user (acting s levels) (u value) link) r)
  loaded_way u link place w call (Ok value) e = goes (u value) link
  loaded_way u link place w call (Err x) e = unread kind.Load place w x call e

  stored_way : (u : UserState) (link : Bool) (place : PhysAddr) (w v : ℕ) → CallsBus s levels m kind.Store w place
      → (r : Result Memory Refusal) → write_of m place.0 w v ≡ r → Way s levels m (stored (acting s levels) (with_user (acting s levels) u link) m r)
  stored_way u link place w v call (Ok n) e = writes u link place w v n call e
  stored_way u link place w v call (Err x) e = unwritten place w v x call e

  conditional_way : (rd : Reg) (value : ℕ) (link : Bool) (place : PhysAddr) → (link ≡ true → CallsBus s levels m kind.Store 4 place)
      → Way s levels m (store_conditional_to (acting s levels) m rd value link place)
  conditional_way rd value true place call = stored_way (unlinked (acting s levels) rd).user false place 4 value (call refl) (write_of m place.0 4 value) refl
  conditional_way rd value false place call = goes _ _

  probe_way : (to : Result PhysAddr Exception) → Way s levels m (unasked (probe (acting s levels) to) m)
  probe_way (Ok place) = goes _ _
  probe_way (Err e) = raises e

  privileged_way : (level : Privilege) (action : PrivilegedAction) → s.registers.mode.plv ≡ level
      → Way s levels m (unasked (by_privilege level (acting s levels) action) m)
  privileged_way Plv0 action is = supervises action is
  privileged_way Plv3 action is = raises Ipe

  -- where the action's access leads, the step calls the bus
  abbrev Calling : Action → Type 0
  Calling action = (k : AccessKind) (w : ℕ) (at : VirtAddr) (to : PhysAddr) → Accesses (acting s levels) action k w at → locate s k w at ≡ Ok to
      → CallsBus s levels m k w to

  perform_way : (action : Action) → Calling action → Way s levels m (perform (acting s levels) m action)
  perform_way (Write rd value next) call = goes _ _
  perform_way (Go next) call = goes _ _
  perform_way (Load op rd at) call = at_place_way (load_from (acting s levels) m op rd) (locate s kind.Load (load_width op) at)
      (λ place is. loaded_way (λ value. (with_result s rd (load_result op value)).user) s.registers.link place (load_width op)
      (call kind.Load (load_width op) at place (loads op rd at) is) (read_of m place.0 (load_width op)) refl)
  perform_way (Store op at value) call = at_place_way (store_to (acting s levels) m op value) (locate s kind.Store (store_width op) at)
      (λ place is. stored_way (advanced s).user s.registers.link place (store_width op) value
      (call kind.Store (store_width op) at place (stores op at value) is) (write_of m place.0 (store_width op) value) refl)
  perform_way (LoadLinked rd at) call = at_place_way (load_linked_from (acting s levels) m rd) (locate s kind.Load 4 at)
      (λ place is. loaded_way (λ value. (with_result s rd value).user) true place 4 (call kind.Load 4 at place (loads_linked rd at) is) (read_of m place.0 4) refl)
  perform_way (StoreConditional rd at value) call =
      at_place_way (store_conditional_to (acting s levels) m rd value s.registers.link) (locate s kind.Store 4 at)
      (λ place is. conditional_way rd value s.registers.link place (λ link. call kind.Store 4 at place (stores_linked rd at value link) is))
  perform_way (Probe at) call = probe_way (locate s kind.Load 1 at)
  perform_way (Raise e) call = raises e
  perform_way (Privileged action) call = privileged_way s.registers.mode.plv action refl

  decoded_way : (from : PhysAddr) (word : ℕ) → Fetches s levels from → read_of m from.0 4 ≡ Ok word → (i : Option Instruction) → decode_of word ≡ i
      → Way s levels m (decoded (acting s levels) m i)
  decoded_way from word fetches reads None is = raises Ine
  decoded_way from word fetches reads (Some i) is =
      let action : Action = plan s.user s.registers.timer i in
      let asks_for : AsksFor s levels m action = record { from = from; word = word; instruction = i; fetches = fetches; reads = reads; is = is; means = refl } in
      perform_way action (λ k w at to accesses leads. by_access action k w at to asks_for (accesses_before s levels action k w at accesses) leads)

  fetched_way : (from : PhysAddr) → Fetches s levels from → (r : Result ℕ Refusal) → read_of m from.0 4 ≡ r
      → Way s levels m (fetched (acting s levels) m r)
  fetched_way from fetches (Ok word) e = decoded_way from word fetches e (decode_of word) refl
  fetched_way from fetches (Err x) e = unread kind.Fetch from 4 x (by_fetch from fetches) e

  interrupt_way : (taken : Bool) → keeps_waiting s.activity (due (at_levels s levels).registers.interrupts) ≡ false
      → interrupted (at_levels s levels).registers ≡ taken → Way s levels m (by_interrupt taken (acting s levels) m)
  interrupt_way true acts e = raises Int
  interrupt_way false acts e = at_place_way (fetch_from (acting s levels) m) (locate s kind.Fetch 4 s.user.pc)
      (λ from is. fetched_way from (record { acts = acts; undisturbed = e; leads = is }) (read_of m from.0 4) refl)

  -- what is so of a step that goes on waiting, and of each of these ways, is so of the step
  pub each_way : (P : Outcome StepAnswer → Type 0) → P (unasked (settled event.Waiting (at_levels s levels)) m)
      → ((o : Outcome StepAnswer) → Way s levels m o → P o) → P (acted s levels m)
  each_way P at_rest at_work = go (keeps_waiting s.activity (due (at_levels s levels).registers.interrupts)) refl
    where
      go : (waits : Bool) → keeps_waiting s.activity (due (at_levels s levels).registers.interrupts) ≡ waits → P (by_waiting waits (at_levels s levels) m)
      go true e = at_rest
      go false e = at_work (execute (acting s levels) m) (interrupt_way (interrupted (at_levels s levels).registers) e refl)
