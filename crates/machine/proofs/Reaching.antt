-- What a step asks for, an address reaches.
use Rattle.std.proofs.Common.{◌≡◌, ℕ, ◌+◌, ◌-◌, ◌%◌, ◌^◌, ◌<◌, Bool, true, false, inl, inr, Ok, Err, Result, IfOk, refl, sym, ap, subst, ◌∙◌, arith, mod-lt, lit<, eqb}
use Rattle.std.proofs.lemmas.Bool.{eqb-true}
use Rattle.bus.specs.declared.address.PhysAddr.{PhysAddr}
use Rattle.bus.specs.Memory.{Memory, is_width}
use Rattle.bus.specs.Rules.{Names, Stands}
use Rattle.bus.proofs.Ruling.{width_cases}
use Rattle.pages.specs.declared.address.VirtAddr.{VirtAddr}
use Rattle.pages.specs.declared.access_kind.AccessKind.{AccessKind}
use Rattle.pages.specs.declared.access_kind.AccessKind.TheVariants as kind
use Rattle.pages.specs.declared.privilege.Privilege.TheVariants.{Plv3}
use Rattle.csr.specs.declared.exception.PageFault.{PageFault}
use Rattle.csr.specs.declared.mode.Mode.{Mode}
use Rattle.translation.specs.Translation.{Place, place, translation}
use Rattle.translation.specs.Laws.{LoadsFrom}
use Rattle.translation.proofs.OnePage.{within_word, stays_in_page}
use Rattle.translation.proofs.OneAddress.{loads_from}
use Rattle.machine.specs.declared.state.State.{State}
use Rattle.machine.specs.Access.{translated, if_aligned, locate}
use Rattle.machine.specs.Isolation.{Asks, by_call, in_plv3, Reaches}
use Rattle.machine.proofs.Ways.{Led, led}

abbrev pub low_32_bits : VirtAddr → ℕ
low_32_bits at = at.0 % 2 ^ 32

pub record Located (s : State) (k : AccessKind) (w : ℕ) (at : VirtAddr) (to : PhysAddr) : Type 0 where
  pub aligned : low_32_bits at % w ≡ 0
  pub mat : ℕ
  pub leads : translated s k (low_32_bits at) ≡ Ok (place to.0 mat)

pub located : (s : State) (k : AccessKind) (w : ℕ) (at : VirtAddr) (to : PhysAddr) → locate s k w at ≡ Ok to → Located s k w at to
located s k w at to is = go (eqb (low_32_bits at % w) 0) refl (translated s k (low_32_bits at)) refl is
  where
    go : (b : Bool) → eqb (low_32_bits at % w) 0 ≡ b → (r : Result Place PageFault) → translated s k (low_32_bits at) ≡ r
        → if_aligned b k (low_32_bits at) r ≡ Ok to → Located s k w at to
    go true e (Ok found) f h =
        let same : found.0 ≡ to = cc in
        record { aligned = eqb-true _ _ e; mat = found.1; leads = f ∙ ap (λ (p : PhysAddr). Ok (p, found.1)) same }
    go true e (Err fault) f h = absurd cc
    go false e r f h = absurd cc

module _ (s : State) (user : s.registers.mode.plv ≡ Plv3) where
  same_mode : s.registers.mode ≡ in_plv3 s.registers.mode
  same_mode = ap (λ level. record s.registers.mode { plv = level }) user

  pub byte_reached : (k : AccessKind) (w : ℕ) (to : PhysAddr) (x : ℕ) → Led s k w to → Names to.0 w x → Reaches s k x
  byte_reached k w to x led_to names =
      let at = led_to.at in
      let found = located s k w at to led_to.leads in
      let stands : Stands (low_32_bits at) w = (width_cases w led_to.is_wide, found.aligned) in
      let word : low_32_bits at < 2 ^ 32 = mod-lt at.0 (lit< tt) in
      let within : x - to.0 < w = omega (arith, names) in
      let there : to.0 + (x - to.0) ≡ x = omega (arith, names) in
      record {
        at = low_32_bits at + (x - to.0);
        mat = found.mat;
        word = omega (arith, within_word (low_32_bits at) w (x - to.0) stands within);
        leads =
            sym (ap (λ (mode : Mode). translation mode s.registers.windows s.tlb k (low_32_bits at + (x - to.0))) same_mode)
            ∙ stays_in_page s.registers.mode s.registers.windows s.tlb k (low_32_bits at) w (x - to.0) to.0 found.mat stands within found.leads
            ∙ ap (λ n. Ok (place n found.mat)) there;
      }

  loads_too : (k : AccessKind) (x : ℕ) → Reaches s k x → Reaches s kind.Load x
  loads_too k x r =
      let mode = in_plv3 s.registers.mode in
      let granted : LoadsFrom mode s.registers.windows s.tlb r.at x
      = subst (λ (a : Result Place PageFault). IfOk a (λ to. LoadsFrom mode s.registers.windows s.tlb r.at to.0.0)) r.leads
      (loads_from mode s.registers.windows s.tlb k r.at) in
      record { at = r.at; mat = granted.0; word = r.word; leads = granted.1 }

  pub asked_reached : (levels : ℕ) (m : Memory) (x : ℕ) → Asks s levels m x → Reaches s kind.Load x
  asked_reached levels m x (by_call k w to call names) = loads_too k x (byte_reached k w to x (led s levels m k w to call) names)
