-- The first entry that fits is the one that the search finds.
use Rattle.std.proofs.Common.{◌≡◌, ℕ, zero, suc, ◌+◌, ◌<◌, Bool, true, false, cond, List, [], ◌∷◌, Some, None, Option, length, get_or, sym, refl, ap, subst, ◌∙◌, arith, add-zero}
use Rattle.std.proofs.lemmas.Bool.{cond-true, cond-false}
use Rattle.std.proofs.lemmas.List.{get_or_read}
use Rattle.tlb.specs.declared.entry.Entry.{Entry}
use Rattle.tlb.specs.declared.table.Tlb.{Tlb}
use Rattle.tlb.specs.Entries.{empty, fits}
use Rattle.tlb.specs.Searching.{entry_of, find_from, find, NoneFitsBelow, FitsFirst}

-- what is true of an entry that was read is true of its place in the list
pub fits_where_read : (es : List Entry) (i : ℕ) (e : Entry) (at asid : ℕ) (b : Bool)
    → i < length es → e ≡ get_or es i e → b ≡ fits e at asid → fits (entry_of es i) at asid ≡ b
fits_where_read es i e at asid b within read known =
    ap (λ (x : Entry). fits x at asid) (sym (get_or_read es i e within read empty)) ∙ sym known

pub find_from_some : (k i : ℕ) (es : List Entry) (at asid : ℕ) → i < length es → fits (entry_of es i) at asid ≡ true
    → ((j : ℕ) → j < i → fits (entry_of es j) at asid ≡ false) → find_from k es at asid ≡ Some (k + i)
find_from_some k i [] at asid within here before = absurd (omega arith)
find_from_some k zero (e ∷ es) at asid within here before = cond-true _ _ _ here ∙ ap Some (sym (add-zero k))
find_from_some k (suc i) (e ∷ es) at asid within here before =
    cond-false _ _ _ (before 0 (omega arith))
    ∙ find_from_some (k + 1) i es at asid (omega arith) here (λ j h. before (suc j) (omega arith))
    ∙ ap Some (omega arith)

pub find_from_none : (k : ℕ) (es : List Entry) (at asid : ℕ)
    → ((j : ℕ) → j < length es → fits (entry_of es j) at asid ≡ false) → find_from k es at asid ≡ None
find_from_none k [] at asid before = refl
find_from_none k (e ∷ es) at asid before =
    cond-false _ _ _ (before 0 (omega arith)) ∙ find_from_none (k + 1) es at asid (λ j h. before (suc j) (omega arith))

-- what is found fits first; the entries are numbered from k on
abbrev FoundFirst : ℕ → List Entry → ℕ → ℕ → ℕ → Type 0
FoundFirst k es at asid j = (i : ℕ) × (j ≡ k + i) × FitsFirst es at asid i

none_before : (e : Entry) (es : List Entry) (at asid i : ℕ) → fits e at asid ≡ false → NoneFitsBelow es at asid i
    → NoneFitsBelow (e ∷ es) at asid (suc i)
none_before e es at asid i here later zero h = here
none_before e es at asid i here later (suc k) h = later k (omega arith)

found_first : (k : ℕ) (es : List Entry) (at asid j : ℕ) → find_from k es at asid ≡ Some j → FoundFirst k es at asid j
found_first k [] at asid j found = absurd (no_some found)
  where
    no_some : ◌≡◌ {A = Option ℕ} None (Some j) → ⊥
    no_some e = cc
found_first k (e ∷ es) at asid j found = go (fits e at asid) refl found (found_first (k + 1) es at asid j)
  where
    go : (b : Bool) → fits e at asid ≡ b → cond b (Some k) (find_from (k + 1) es at asid) ≡ Some j
        → (find_from (k + 1) es at asid ≡ Some j → FoundFirst (k + 1) es at asid j) → FoundFirst k (e ∷ es) at asid j
    go true here same rest = let number : k ≡ j = cc in (0, omega arith, (here, λ m h. absurd (omega arith)))
    go false here same rest =
        let later : FoundFirst (k + 1) es at asid j = rest same in
        (suc later.0, omega (arith, later.1), (later.2.0, none_before e es at asid later.0 here later.2.1))

pub find_first : (t : Tlb) (at asid i : ℕ) → find t at asid ≡ Some i → FitsFirst t.entries at asid i
find_first t at asid i found =
    let first : FoundFirst 0 t.entries at asid i = found_first 0 t.entries at asid i found in
    let number : first.0 ≡ i = omega (arith, first.1) in
    subst (λ (n : ℕ). FitsFirst t.entries at asid n) number first.2
