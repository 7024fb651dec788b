-- What is true of every way of translation is true of translation.
use Rattle.std.proofs.Common.{◌≡◌, ℕ, Some, None, Option, Ok, Err, Result, IfOk, refl, ap, ◌∙◌}
use Rattle.pages.specs.declared.access_kind.AccessKind.{AccessKind}
use Rattle.tlb.specs.declared.table.Tlb.{Tlb}
use Rattle.tlb.specs.Entries.{half}
use Rattle.tlb.specs.Searching.{entry, find}
use Rattle.csr.specs.declared.exception.PageFault.{PageFault}
use Rattle.csr.specs.declared.mode.Mode.{Mode}
use Rattle.csr.specs.declared.mode.TranslationMode.{TranslationMode}
use Rattle.csr.specs.declared.mode.TranslationMode.TheVariants.{Direct, Mapped}
use Rattle.csr.specs.declared.window.Window.{Window}
use Rattle.csr.specs.declared.window.Windows.{Windows}
use Rattle.translation.specs.Translation.{Place, direct, window_for, through_window, permission, in_page, if_permitted, through_page, through_found, by_window, mapped, by_mode, translation}

-- what is wanted of a place on each way
pub record Ways (mode : Mode) (ws : Windows) (tlb : Tlb) (kind : AccessKind) (at : ℕ) (P : Place → Type 0) : Type 0 where
  pub direct_way : mode.translation ≡ Direct → P (direct mode kind at)
  pub window_way : (w : Window) → mode.translation ≡ Mapped → window_for ws mode.plv at ≡ Some w → P (through_window w at)
  pub page_way : (i : ℕ) → mode.translation ≡ Mapped → window_for ws mode.plv at ≡ None → find tlb at mode.asid ≡ Some i
      → permission (half (entry tlb i) at) mode.plv kind ≡ Ok tt → P (in_page (entry tlb i).page_size (half (entry tlb i) at) at)

permitted : (P : Place → Type 0) (r : Result (Unit {0}) PageFault) (to : Place) → (r ≡ Ok tt → P to) → IfOk (if_permitted r to) P
permitted P (Err fault) to h = tt
permitted P (Ok u) to h = h refl

found : (mode : Mode) (tlb : Tlb) (kind : AccessKind) (at : ℕ) (P : Place → Type 0) (o : Option ℕ)
    → ((i : ℕ) → o ≡ Some i → permission (half (entry tlb i) at) mode.plv kind ≡ Ok tt
    → P (in_page (entry tlb i).page_size (half (entry tlb i) at) at))
    → IfOk (through_found o mode tlb kind at) P
found mode tlb kind at P None h = tt
found mode tlb kind at P (Some i) h = permitted P _ _ (h i refl)

windowed : (mode : Mode) (ws : Windows) (tlb : Tlb) (kind : AccessKind) (at : ℕ) (P : Place → Type 0) → mode.translation ≡ Mapped
    → Ways mode ws tlb kind at P → (o : Option Window) → window_for ws mode.plv at ≡ o → IfOk (by_window o mode tlb kind at) P
windowed mode ws tlb kind at P m ways (Some w) e = ways.window_way w m e
windowed mode ws tlb kind at P m ways None e = found mode tlb kind at P (find tlb at mode.asid) (λ i. ways.page_way i m e)

by_modes : (mode : Mode) (ws : Windows) (tlb : Tlb) (kind : AccessKind) (at : ℕ) (P : Place → Type 0) → Ways mode ws tlb kind at P
    → (t : TranslationMode) → mode.translation ≡ t → IfOk (by_mode t mode ws tlb kind at) P
by_modes mode ws tlb kind at P ways Direct m = ways.direct_way m
by_modes mode ws tlb kind at P ways Mapped m = windowed mode ws tlb kind at P m ways (window_for ws mode.plv at) refl

pub each_way : (mode : Mode) (ws : Windows) (tlb : Tlb) (kind : AccessKind) (at : ℕ) (P : Place → Type 0)
    → Ways mode ws tlb kind at P → IfOk (translation mode ws tlb kind at) P
each_way mode ws tlb kind at P ways = by_modes mode ws tlb kind at P ways mode.translation refl

-- which way it is, where that is known
pub goes_direct : (mode : Mode) (ws : Windows) (tlb : Tlb) (kind : AccessKind) (at : ℕ) → mode.translation ≡ Direct
    → translation mode ws tlb kind at ≡ Ok (direct mode kind at)
goes_direct mode ws tlb kind at m = ap (λ t. by_mode t mode ws tlb kind at) m

pub goes_mapped : (mode : Mode) (ws : Windows) (tlb : Tlb) (kind : AccessKind) (at : ℕ) → mode.translation ≡ Mapped
    → translation mode ws tlb kind at ≡ mapped mode ws tlb kind at
goes_mapped mode ws tlb kind at m = ap (λ t. by_mode t mode ws tlb kind at) m

pub goes_by_window : (mode : Mode) (ws : Windows) (tlb : Tlb) (kind : AccessKind) (at : ℕ) (o : Option Window)
    → mode.translation ≡ Mapped → window_for ws mode.plv at ≡ o → translation mode ws tlb kind at ≡ by_window o mode tlb kind at
goes_by_window mode ws tlb kind at o m e = goes_mapped mode ws tlb kind at m ∙ ap (λ w. by_window w mode tlb kind at) e

pub goes_by_page : (mode : Mode) (ws : Windows) (tlb : Tlb) (kind : AccessKind) (at i : ℕ) → mode.translation ≡ Mapped
    → window_for ws mode.plv at ≡ None → find tlb at mode.asid ≡ Some i
    → translation mode ws tlb kind at ≡ through_page (entry tlb i) mode.plv kind at
goes_by_page mode ws tlb kind at i m e f =
    goes_by_window mode ws tlb kind at None m e ∙ ap (λ o. through_found o mode tlb kind at) f
