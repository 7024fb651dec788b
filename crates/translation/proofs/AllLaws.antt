-- All laws of a result.
use Rattle.std.proofs.Common.{◌≡◌, ℕ, Result, IfOk, sym, subst, ◌∙◌}
use Rattle.csr.specs.declared.exception.PageFault.{PageFault}
use Rattle.csr.specs.declared.mode.Mode.{Mode}
use Rattle.csr.specs.declared.mode.TranslationMode.TheVariants.{Mapped}
use Rattle.csr.specs.declared.window.Windows.{Windows}
use Rattle.pages.specs.declared.access_kind.AccessKind.{AccessKind}
use Rattle.tlb.specs.declared.table.Tlb.{Tlb}
use Rattle.translation.specs.Translation.{Place, mapped, translation}
use Rattle.translation.specs.Laws.{SameOffset, LeadsTo, LoadsFrom, WholePage}
use Rattle.translation.proofs.Ways.{goes_mapped}
use Rattle.translation.proofs.OneAddress.{same_offset, leads_to, loads_from}
use Rattle.translation.proofs.OnePage.{whole_page}

abbrev pub Answer : Type 0
Answer = Result Place PageFault

pub record Lawful (mode : Mode) (ws : Windows) (tlb : Tlb) (kind : AccessKind) (at : ℕ) (r : Answer) : Type 0 where
  pub offset : IfOk r (λ to. SameOffset at to.0.0)
  pub lies : IfOk r (λ to. LeadsTo mode ws tlb at to.0.0)
  pub loads : IfOk r (λ to. LoadsFrom mode ws tlb at to.0.0)
  pub whole_page : WholePage mode ws tlb kind at r

pub lawful : (mode : Mode) (ws : Windows) (tlb : Tlb) (kind : AccessKind) (at : ℕ) (r : Answer)
    → r ≡ translation mode ws tlb kind at → Lawful mode ws tlb kind at r
lawful mode ws tlb kind at r same = subst (Lawful mode ws tlb kind at) (sym same) (record {
  offset = same_offset mode ws tlb kind at;
  lies = leads_to mode ws tlb kind at;
  loads = loads_from mode ws tlb kind at;
  whole_page = whole_page mode ws tlb kind at;
})

pub lawful_mapped : (mode : Mode) (ws : Windows) (tlb : Tlb) (kind : AccessKind) (at : ℕ) (r : Answer)
    → mode.translation ≡ Mapped → r ≡ mapped mode ws tlb kind at → Lawful mode ws tlb kind at r
lawful_mapped mode ws tlb kind at r m same = lawful mode ws tlb kind at r (same ∙ sym (goes_mapped mode ws tlb kind at m))
