-- What a step alters that begins and ends in PLV3.
use Rattle.std.proofs.Common.{◌≡◌, ℕ, inl, inr, ⊎_elim, refl, sym, ◌∙◌}
use Rattle.bus.specs.Memory.{Memory}
use Rattle.pages.specs.declared.access_kind.AccessKind.TheVariants as kind
use Rattle.pages.specs.declared.privilege.Privilege.TheVariants.{Plv0, Plv3}
use Rattle.machine.specs.declared.state.State.{State}
use Rattle.machine.specs.Outcomes.{Outcome, StepAnswer}
use Rattle.machine.specs.Step.{acted, ended, step}
use Rattle.machine.specs.Isolation.{UserStep, Confined}
use Rattle.machine.proofs.Bytes.{write_names}
use Rattle.machine.proofs.Ways.{Way, raises, goes, supervises, writes, unread, unwritten, led, each_way}
use Rattle.machine.proofs.Reaching.{byte_reached}

module _ (s : State) (levels : ℕ) (m : Memory) (user : s.registers.mode.plv ≡ Plv3) where
  abbrev Fine : Outcome StepAnswer → Type 0
  Fine o = (ended s m o.answer o).state.registers.mode.plv ≡ Plv3 → UserStep s m (ended s m o.answer o)

  way_fine : (o : Outcome StepAnswer) → Way s levels m o → Fine o
  way_fine o (raises e) ends = let z : Plv0 ≡ Plv3 = ends in cc
  way_fine o (goes u link) ends = record { tlb = refl; registers = refl; bytes = λ x. inl refl }
  way_fine o (supervises action level) ends = let z : Plv0 ≡ Plv3 = sym level ∙ user in cc
  way_fine o (writes u link place w v n call put) ends = record {
    tlb = refl;
    registers = refl;
    bytes = λ x. ⊎_elim inl (λ names. inr (byte_reached s user kind.Store w place x (led s levels m kind.Store w place call) names)) (write_names m n place.0 w v put x);
  }
  way_fine o (unread k place w e call got) ends = record { tlb = refl; registers = refl; bytes = λ x. inl refl }
  way_fine o (unwritten place w v e call put) ends = record { tlb = refl; registers = refl; bytes = λ x. inl refl }

  fine : Fine (acted s levels m)
  fine = each_way s levels m Fine (λ ends. record { tlb = refl; registers = refl; bytes = λ x. inl refl }) way_fine

pub confined : (s : State) (levels : ℕ) (m : Memory) → Confined s m (step s levels m)
unfolding step
confined s levels m user ends = fine s levels m user ends
