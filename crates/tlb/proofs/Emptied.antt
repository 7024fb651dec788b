-- One more entry of a list of which the first are invalidated. What was read is e, and stands in the list as `get_or ys i e`.
use Rattle.std.proofs.Common.{◌≡◌, ℕ, ◌+◌, ◌<◌, Bool, cond, List, ◌++◌, map, take, drop, length, get_or, sym, ap, ◌∙◌}
use Rattle.std.proofs.lemmas.List.Edits.{map_over_more}
use Rattle.std.proofs.Math.ListN.{set}
use Rattle.tlb.specs.declared.entry.Entry.{Entry}
use Rattle.tlb.specs.declared.invalidation.Invalidation.{Invalidation}
use Rattle.tlb.specs.Invalidating.{selects, emptied, invalidated_entry}

-- ys is xs with its first i entries invalidated
abbrev pub PartDone : Invalidation → ℕ → List Entry → List Entry → Type 0
PartDone which i xs ys = ys ≡ map (invalidated_entry which) (take i xs) ++ drop i xs

chosen : (which : Invalidation) (e : Entry) (b : Bool) → b ≡ selects which e → invalidated_entry which e ≡ cond b (emptied e) e
chosen which e b known = ap (λ v. cond v (emptied e) e) (sym known)

-- the entry is emptied where it is selected, and else put back as it was
pub one_more : (which : Invalidation) (i : ℕ) (xs ys : List Entry) (e : Entry) (b : Bool) → i < length xs → PartDone which i xs ys
    → e ≡ get_or ys i e → b ≡ selects which (get_or ys i e)
    → PartDone which (i + 1) xs (set ys i (cond b (emptied (get_or ys i e)) (get_or ys i e)))
one_more which i xs ys e b within done read known =
    ap (λ (x : Entry). set ys i (cond b (emptied x) x)) (sym read)
    ∙ ap (set ys i) (sym (chosen which e b (known ∙ ap (selects which) (sym read))))
    ∙ map_over_more (invalidated_entry which) xs ys i e within done read
