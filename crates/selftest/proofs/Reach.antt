-- That bytes can be withheld, and which a page reaches.
use Rattle.std.proofs.Common.{◌≡◌, ℕ, zero, suc, ◌+◌, ◌*◌, ◌/◌, ◌%◌, ◌^◌, ◌<◌, ◌≤◌, Bool, true, false, cond, Some, None, Ok, Err, Result, refl, sym, ap, subst, ◌∙◌, arith, lit<, lit≤}
use Rattle.std.proofs.lemmas.Bool.{both_ways}
use Rattle.std.proofs.lemmas.Bool.Decides.{nat_tests}
use Rattle.bus.specs.declared.address.PhysAddr.{PhysAddr}
use Rattle.bus.specs.Memory.{Memory, address, read_of}
use Rattle.bus.specs.Rules.{Names}
use Rattle.isa.specs.declared.instruction.Instruction.{Instruction}
use Rattle.isa.specs.Decoding.{decode_of}
use Rattle.pages.specs.declared.address.VirtAddr.{VirtAddr}
use Rattle.pages.specs.declared.access_kind.AccessKind.{AccessKind}
use Rattle.pages.specs.declared.access_kind.AccessKind.TheVariants as kind
use Rattle.pages.specs.declared.privilege.Privilege.TheVariants.{Plv0, Plv3}
use Rattle.pages.specs.declared.page_size.PageSize.TheVariants.{Large}
use Rattle.tlb.specs.Entries.{odd, fits}
use Rattle.csr.specs.declared.exception.PageFault.{PageFault}
use Rattle.csr.specs.declared.exception.PageFault.TheVariants.{Tlbr, Pme}
use Rattle.translation.specs.Translation.{Place, place, is_store, invalid, permission, if_permitted, in_page, through_found}
use Rattle.actions.specs.declared.action.Action.{Action}
use Rattle.actions.specs.declared.action.Action.TheVariants.{Write, Go, Load, Store, LoadLinked, StoreConditional, Probe, Raise, Privileged}
use Rattle.actions.specs.Plan.{plan}
use Rattle.machine.specs.declared.answers.Event.TheVariants as event
use Rattle.machine.specs.declared.state.State.{State}
use Rattle.machine.specs.Access.{locate}
use Rattle.machine.specs.Outcomes.{outcome}
use Rattle.machine.specs.Isolation.{Accesses, loads, stores, loads_linked, stores_linked, by_fetch, by_access, Asks, by_call, in_plv3, Reaches, Withheld}
use Rattle.machine.specs.Laws.{RunPerforms, first, later, RunWithheld}
use Rattle.machine.specs.State.{reset_state}
use Rattle.machine.specs.Step.{step}
use Rattle.machine.proofs.FirstProgram.{sum_1, sum_2, sum_3, sum_step_1, sum_step_2, sum_step_3}
use Rattle.selftest.specs.Addition.{HoldsAddition}
use Rattle.selftest.specs.Reach.{other_bytes, user_entry, user_state, Reach}

abbrev is_access : Action → Bool
is_access (Write rd value next) = false
is_access (Go next) = false
is_access (Load op rd at) = true
is_access (Store op at value) = true
is_access (LoadLinked rd at) = true
is_access (StoreConditional rd at value) = true
is_access (Probe at) = false
is_access (Raise e) = false
is_access (Privileged action) = false

accesses_only : (s : State) (a : Action) (k : AccessKind) (w : ℕ) (at : VirtAddr) → Accesses s a k w at → is_access a ≡ true
accesses_only s a k w at (loads op rd b) = refl
accesses_only s a k w at (stores op b value) = refl
accesses_only s a k w at (loads_linked rd b) = refl
accesses_only s a k w at (stores_linked rd b value link) = refl

-- a step of PLV0 whose instruction is neither load nor store asks for its fetch alone
module _ (s : State) (m : Memory) (from : PhysAddr) (word : ℕ) (i : Instruction) (withheld : ℕ → Bool) (kernel : s.registers.mode.plv ≡ Plv0)
    (leads : locate s kind.Fetch 4 s.user.pc ≡ Ok from) (reads : read_of m from.0 4 ≡ Ok word) (is : decode_of word ≡ Some i)
    (plain : is_access (plan s.user s.registers.timer i) ≡ false) (clear : (x : ℕ) → Names from.0 4 x → withheld x ≡ false) where
  quiet_asks : (x : ℕ) → withheld x ≡ true → Asks s 0 m x → ⊥
  quiet_asks x held (by_call l v place (by_fetch f fetches) names) =
      let same : f ≡ from = cc in
      both_ways (withheld x) (clear x (subst (λ (p : PhysAddr). Names p.0 4 x) same names)) held
  quiet_asks x held (by_call l v place (by_access a k w at to asks_for accesses led) names) =
      let there : asks_for.from ≡ from = cc in
      let read : read_of m from.0 4 ≡ Ok asks_for.word = subst (λ (p : PhysAddr). read_of m p.0 4 ≡ Ok asks_for.word) there asks_for.reads in
      let said : asks_for.word ≡ word = cc in
      let means : decode_of word ≡ Some asks_for.instruction = subst (λ (n : ℕ). decode_of n ≡ Some asks_for.instruction) said asks_for.is in
      let same : asks_for.instruction ≡ i = cc in
      let action : a ≡ plan s.user s.registers.timer i = sym asks_for.means ∙ ap (plan s.user s.registers.timer) same in
      both_ways (is_access a) (ap is_access action ∙ plain) (accesses_only s a k w at accesses)

  quiet : Withheld withheld s 0 m
  quiet = record {
    of_plv0 = λ e x held asks. quiet_asks x held asks;
    of_plv3 = λ e x held reaches. let z : Plv0 ≡ Plv3 = sym kernel ∙ e in absurd cc;
  }

none_left : (levels n : ℕ) (s t : State) (m k : Memory) → RunPerforms n levels s m t k → n ≡ zero → ⊥
none_left levels n s t m k first is = absurd cc
none_left levels n s t m k (later e answer rest) is = absurd cc

module _ (withheld : ℕ → Bool) (levels : ℕ) where
  run_over : (s : State) (m : Memory) → RunWithheld withheld zero levels s m
  run_over s m t k performs = absurd (none_left levels zero s t m k performs refl)

  run_on : (n : ℕ) (s t : State) (m : Memory) → Withheld withheld s levels m → step s levels m ≡ outcome (Ok event.Done) t m
      → RunWithheld withheld n levels t m → RunWithheld withheld (suc n) levels s m
  run_on n s t m here is rest u k first = here
  run_on n s t m here is rest u k (later e answer performs) =
      subst (λ o. RunWithheld withheld n levels o.state o.memory) (sym is) rest u k performs

word_clear : (at x : ℕ) → 0x1c000000 ≤ at → at + 4 ≤ 0x1c00000c → Names at 4 x → other_bytes x ≡ false
word_clear at x low high names = grind (arith, nat_tests)

quiet_1 : (m : Memory) → HoldsAddition m → Withheld other_bytes reset_state 0 m
unfolding decode_of
quiet_1 m holds = quiet reset_state m (address 0x1c000000) 0x02bffc04 _ other_bytes refl refl holds.first refl refl
    (λ x names. word_clear 0x1c000000 x (lit≤ tt) (lit≤ tt) names)

quiet_2 : (m : Memory) → HoldsAddition m → Withheld other_bytes sum_1 0 m
unfolding decode_of
quiet_2 m holds = quiet sum_1 m (address 0x1c000004) 0x00101085 _ other_bytes refl refl holds.second refl refl
    (λ x names. word_clear 0x1c000004 x (lit≤ tt) (lit≤ tt) names)

quiet_3 : (m : Memory) → HoldsAddition m → Withheld other_bytes sum_2 0 m
unfolding decode_of
quiet_3 m holds = quiet sum_2 m (address 0x1c000008) 0x50000000 _ other_bytes refl refl holds.third refl refl
    (λ x names. word_clear 0x1c000008 x (lit≤ tt) (lit≤ tt) names)

run_quiet : (m : Memory) → HoldsAddition m → RunWithheld other_bytes 3 0 reset_state m
run_quiet m holds =
    run_on other_bytes 0 2 reset_state sum_1 m (quiet_1 m holds) (sum_step_1 m holds.first)
    (run_on other_bytes 0 1 sum_1 sum_2 m (quiet_2 m holds) (sum_step_2 m holds.second)
    (run_on other_bytes 0 0 sum_2 sum_3 m (quiet_3 m holds) (sum_step_3 m holds.third) (run_over other_bytes 0 sum_3 m)))

-- what is reached lies in the page, and is not stored to
abbrev InThePage : AccessKind → ℕ → Type 0
InThePage k x = (is_store k ≡ false) × ((0x800000 ≤ x) × (x < 0xa00000))

nothing_there : (k : AccessKind) (x mat : ℕ) (fault : PageFault) → ◌≡◌ {A = Result Place PageFault} (Err fault) (Ok (place x mat)) → InThePage k x
nothing_there k x mat fault is = absurd cc

place_of : (p x mat : ℕ) → ◌≡◌ {A = Result Place PageFault} (Ok (place p 0)) (Ok (place x mat)) → p ≡ x
place_of p x mat is =
    let same : place p 0 ≡ place x mat = cc in
    ap (λ (to : Place). to.0.0) same

even_page : (k : AccessKind) (at x mat : ℕ) → if_permitted (permission user_entry.even Plv3 k) (in_page Large user_entry.even at) ≡ Ok (place x mat)
    → InThePage k x
even_page kind.Fetch at x mat is =
    let there : 0x800 / 2 ^ 9 * 2 ^ 21 + at % 2 ^ 21 ≡ x = place_of _ x mat is in
    (refl, (omega arith, omega arith))
even_page kind.Load at x mat is =
    let there : 0x800 / 2 ^ 9 * 2 ^ 21 + at % 2 ^ 21 ≡ x = place_of _ x mat is in
    (refl, (omega arith, omega arith))
even_page kind.Store at x mat is = nothing_there kind.Store x mat Pme is

by_half : (k : AccessKind) (at x mat : ℕ) (second : Bool)
    → if_permitted (permission (cond second user_entry.odd user_entry.even) Plv3 k) (in_page Large (cond second user_entry.odd user_entry.even) at) ≡ Ok (place x mat)
    → InThePage k x
by_half k at x mat true is = nothing_there k x mat (invalid k) is
by_half k at x mat false is = even_page k at x mat is

by_fit : (k : AccessKind) (at x mat : ℕ) (fit : Bool)
    → through_found (cond fit (Some 0) None) (in_plv3 user_state.registers.mode) user_state.tlb k at ≡ Ok (place x mat) → InThePage k x
by_fit k at x mat false is = nothing_there k x mat Tlbr is
by_fit k at x mat true is = by_half k at x mat (odd Large at) is

in_the_page : (k : AccessKind) (x : ℕ) → Reaches user_state k x → InThePage k x
in_the_page k x r = by_fit k r.at x r.mat (fits user_entry r.at 0) r.leads

pub reach : Reach
reach = record {
  withheld = run_quiet;
  reached = record { at = 0x401234; mat = 0; word = lit< tt; leads = refl };
  beside = λ x r. (in_the_page kind.Load x r).1;
  unwritten = λ x r. let z : true ≡ false = (in_the_page kind.Store x r).0 in absurd cc;
}
