-- The addresses of 4 KiB are translated together.
use Rattle.std.proofs.Common.{◌≡◌, ℕ, ◌+◌, ◌*◌, ◌/◌, ◌%◌, ◌^◌, ◌<◌, cond, ◌==◌, ◌&&◌, Some, None, Option, Ok, Err, Result, IfOk, refl, sym, ap, subst, ◌⊎◌, inl, inr, ◌∙◌, arith}
use Rattle.bus.specs.Rules.{Stands}
use Rattle.pages.specs.declared.access_kind.AccessKind.{AccessKind}
use Rattle.pages.specs.declared.privilege.Privilege.{Privilege}
use Rattle.pages.specs.declared.page_size.PageSize.{PageSize}
use Rattle.pages.specs.declared.page_size.PageSize.TheVariants.{Small, Large}
use Rattle.pages.specs.declared.half.Half.{Half}
use Rattle.tlb.specs.declared.entry.Entry.{Entry}
use Rattle.tlb.specs.declared.table.Tlb.{Tlb}
use Rattle.tlb.specs.Entries.{half}
use Rattle.tlb.specs.Searching.{entry, find}
use Rattle.tlb.proofs.OnePage.{SamePage, find_same_page, half_same_page}
use Rattle.csr.specs.declared.exception.PageFault.{PageFault}
use Rattle.csr.specs.declared.mode.Mode.{Mode}
use Rattle.csr.specs.declared.mode.TranslationMode.{TranslationMode}
use Rattle.csr.specs.declared.mode.TranslationMode.TheVariants.{Direct, Mapped}
use Rattle.csr.specs.declared.window.Window.{Window}
use Rattle.csr.specs.declared.window.Windows.{Windows}
use Rattle.translation.specs.Translation.{Place, place, direct_type, admits, window_for, place_in, permission, in_page, if_permitted, through_found, by_window, by_mode, translation}
use Rattle.translation.specs.Laws.{SameOffset, moved, WholePage}
use Rattle.translation.proofs.OneAddress.{same_offset}

window_same_page : (ws : Windows) (level : Privilege) (at near : ℕ) → SamePage at near
    → window_for ws level near ≡ window_for ws level at
window_same_page ws level at near same =
    let segment : near / 2 ^ 29 ≡ at / 2 ^ 29 = omega arith in
    let choice : ℕ → Option Window = λ n. cond (admits ws.dmw1 level && n == ws.dmw1.vseg) (Some ws.dmw1)
    (cond (admits ws.dmw0 level && n == ws.dmw0.vseg) (Some ws.dmw0) None) in
    ap choice segment

place_same_page : (size : PageSize) (frame at near : ℕ) → SamePage at near
    → place_in size frame near ≡ place_in size frame at / 2 ^ 12 * 2 ^ 12 + near % 2 ^ 12
place_same_page Small frame at near same = omega arith
place_same_page Large frame at near same = omega arith

in_page_same_page : (size : PageSize) (h : Half) (at near : ℕ) → SamePage at near → (r : Result (Unit {0}) PageFault)
    → if_permitted r (in_page size h near) ≡ moved near (if_permitted r (in_page size h at))
in_page_same_page size h at near same (Err fault) = refl
in_page_same_page size h at near same (Ok _) = ap (λ n. Ok (place n h.mat)) (place_same_page size h.frame.0 at near same)

found_same_page : (mode : Mode) (tlb : Tlb) (kind : AccessKind) (at near : ℕ) → SamePage at near → (o : Option ℕ)
    → through_found o mode tlb kind near ≡ moved near (through_found o mode tlb kind at)
found_same_page mode tlb kind at near same None = refl
found_same_page mode tlb kind at near same (Some i) =
    let e : Entry = entry tlb i in
    ap (λ (h : Half). if_permitted (permission h mode.plv kind) (in_page e.page_size h near)) (half_same_page e at near same)
    ∙ in_page_same_page e.page_size (half e at) at near same (permission (half e at) mode.plv kind)

by_window_same_page : (mode : Mode) (tlb : Tlb) (kind : AccessKind) (at near : ℕ) → SamePage at near → (o : Option Window)
    → by_window o mode tlb kind near ≡ moved near (by_window o mode tlb kind at)
by_window_same_page mode tlb kind at near same (Some w) =
    let to : w.pseg * 2 ^ 29 + near % 2 ^ 29 ≡ (w.pseg * 2 ^ 29 + at % 2 ^ 29) / 2 ^ 12 * 2 ^ 12 + near % 2 ^ 12 = omega arith in
    ap (λ n. Ok (place n w.mat)) to
by_window_same_page mode tlb kind at near same None =
    ap (λ o. through_found o mode tlb kind near) (find_same_page 0 tlb.entries at near mode.asid same)
    ∙ found_same_page mode tlb kind at near same (find tlb at mode.asid)

by_mode_same_page : (mode : Mode) (ws : Windows) (tlb : Tlb) (kind : AccessKind) (at near : ℕ) → SamePage at near
    → (t : TranslationMode) → by_mode t mode ws tlb kind near ≡ moved near (by_mode t mode ws tlb kind at)
by_mode_same_page mode ws tlb kind at near same Direct =
    let to : near ≡ at / 2 ^ 12 * 2 ^ 12 + near % 2 ^ 12 = omega arith in
    ap (λ n. Ok (place n (direct_type mode kind))) to
by_mode_same_page mode ws tlb kind at near same Mapped =
    ap (λ o. by_window o mode tlb kind near) (window_same_page ws mode.plv at near same)
    ∙ by_window_same_page mode tlb kind at near same (window_for ws mode.plv at)

pub whole_page : (mode : Mode) (ws : Windows) (tlb : Tlb) (kind : AccessKind) (at : ℕ)
    → WholePage mode ws tlb kind at (translation mode ws tlb kind at)
whole_page mode ws tlb kind at near same = by_mode_same_page mode ws tlb kind at near same mode.translation

-- what is true of 1, 2 and 4 is true of the width of an access
pub of_width : (P : ℕ → Type 0) (w : ℕ) → (w ≡ 1) ⊎ ((w ≡ 2) ⊎ (w ≡ 4)) → P 1 → P 2 → P 4 → P w
of_width P w (inl one) p q r = subst P (sym one) p
of_width P w (inr (inl two)) p q r = subst P (sym two) q
of_width P w (inr (inr four)) p q r = subst P (sym four) r

-- the bytes that an aligned access names lie in one word of 4 bytes
pub within_word : (at w i : ℕ) → Stands at w → i < w → at % 4 + i < 4
within_word at w i stands =
    of_width (λ n. at % n ≡ 0 → i < n → at % 4 + i < 4) w stands.0
    (λ aligned within. omega arith) (λ aligned within. omega arith) (λ aligned within. omega arith) stands.1

-- an aligned access is translated byte by byte as at its address
pub stays_in_page : (mode : Mode) (ws : Windows) (tlb : Tlb) (kind : AccessKind) (at w i p mat : ℕ) → Stands at w → i < w
    → translation mode ws tlb kind at ≡ Ok (place p mat) → translation mode ws tlb kind (at + i) ≡ Ok (place (p + i) mat)
stays_in_page mode ws tlb kind at w i p mat stands within is =
    let Kept : Result Place PageFault → Type 0 = λ r. IfOk r (λ to. SameOffset at to.0.0) in
    let kept : SameOffset at p = subst Kept is (same_offset mode ws tlb kind at) in
    let room : at % 2 ^ 12 + i < 2 ^ 12 = omega (arith, within_word at w i stands within) in
    let to : p / 2 ^ 12 * 2 ^ 12 + (at + i) % 2 ^ 12 ≡ p + i = omega arith in
    whole_page mode ws tlb kind at (at + i) (omega arith) ∙ ap (moved (at + i)) is ∙ ap (λ n. Ok (place n mat)) to
