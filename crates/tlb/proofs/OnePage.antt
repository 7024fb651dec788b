-- Addresses of the same 4 KiB are found by the same entry, and are in the same of its two pages.
use Rattle.std.proofs.Common.{◌≡◌, ℕ, ◌+◌, ◌/◌, ◌^◌, cond, ◌==◌, ◌&&◌, ◌||◌, List, [], ◌∷◌, Some, refl, ap, ◌∙◌, arith}
use Rattle.pages.specs.declared.page_size.PageSize.{PageSize}
use Rattle.pages.specs.declared.page_size.PageSize.TheVariants.{Small, Large}
use Rattle.tlb.specs.declared.entry.Entry.{Entry}
use Rattle.tlb.specs.Entries.{same_pair, fits, odd, half}
use Rattle.tlb.specs.Searching.{find_from}

abbrev pub SamePage : ℕ → ℕ → Type 0
SamePage at near = near / 2 ^ 12 ≡ at / 2 ^ 12

same_pair_same_page : (size : PageSize) (vppn at near : ℕ) → SamePage at near → same_pair size vppn near ≡ same_pair size vppn at
same_pair_same_page Small vppn at near same = ap (λ n. n == vppn) (omega arith)
same_pair_same_page Large vppn at near same = ap (λ n. n == vppn / 2 ^ 9) (omega arith)

odd_same_page : (size : PageSize) (at near : ℕ) → SamePage at near → odd size near ≡ odd size at
odd_same_page Small at near same = ap (λ n. n == 1) (omega arith)
odd_same_page Large at near same = ap (λ n. n == 1) (omega arith)

fits_same_page : (e : Entry) (at near asid : ℕ) → SamePage at near → fits e near asid ≡ fits e at asid
fits_same_page e at near asid same =
    ap (λ b. e.exists && ((e.global || e.asid == asid) && b)) (same_pair_same_page e.page_size e.vppn at near same)

pub find_same_page : (k : ℕ) (es : List Entry) (at near asid : ℕ) → SamePage at near
    → find_from k es near asid ≡ find_from k es at asid
find_same_page k [] at near asid same = refl
find_same_page k (e ∷ es) at near asid same =
    ap (λ b. cond b (Some k) (find_from (k + 1) es near asid)) (fits_same_page e at near asid same)
    ∙ ap (cond (fits e at asid) (Some k)) (find_same_page (k + 1) es at near asid same)

pub half_same_page : (e : Entry) (at near : ℕ) → SamePage at near → half e near ≡ half e at
half_same_page e at near same = ap (λ b. cond b e.odd e.even) (odd_same_page e.page_size at near same)
