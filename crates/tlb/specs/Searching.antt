-- The TLB as reset leaves it, how it is searched, and what a write leaves.
use Rattle.std.specs.Prelude.{◌≡◌, ℕ, ◌+◌, ◌%◌, ◌<◌, true, false, cond, List, [], ◌∷◌, Some, None, Option, replicate, slice_index_or, slice_set}
use Rattle.tlb.specs.declared.entry.Entry.{Entry}
use Rattle.tlb.specs.declared.table.Tlb.{Tlb}
use Rattle.tlb.specs.declared.table.TheConstants.{ENTRIES}
use Rattle.tlb.specs.Entries.{empty, fits}

abbrev pub reset_tlb : Tlb
reset_tlb = record { entries = replicate ENTRIES empty; fill_at = 0 }

abbrev pub entry_of : List Entry → ℕ → Entry
entry_of es k = slice_index_or es k empty

abbrev pub entry : Tlb → ℕ → Entry
entry t k = entry_of t.entries k

-- the first of the entries that fits, where they are numbered from k on
abbrev pub find_from : ℕ → List Entry → ℕ → ℕ → Option ℕ
find_from k [] at asid = None
find_from k (e ∷ es) at asid = cond (fits e at asid) (Some k) (find_from (k + 1) es at asid)

abbrev pub find : Tlb → ℕ → ℕ → Option ℕ
find t at asid = find_from 0 t.entries at asid

abbrev pub NoneFitsBelow : List Entry → ℕ → ℕ → ℕ → Type 0
NoneFitsBelow es at asid n = (k : ℕ) → k < n → fits (entry_of es k) at asid ≡ false

abbrev pub FitsFirst : List Entry → ℕ → ℕ → ℕ → Type 0
FitsFirst es at asid i = (fits (entry_of es i) at asid ≡ true) × NoneFitsBelow es at asid i

-- Some i: entry i is the first that fits; None: no entry fits
abbrev pub IsFirst : List Entry → ℕ → ℕ → Option ℕ → Type 0
IsFirst es at asid (Some i) = (i < ENTRIES) × FitsFirst es at asid i
IsFirst es at asid None = NoneFitsBelow es at asid ENTRIES

abbrev pub written : ℕ → Entry → Tlb → Tlb
written index e t = record t { entries = slice_set t.entries index e }

abbrev pub filled : Entry → Tlb → Tlb
filled e t = record { entries = slice_set t.entries t.fill_at e; fill_at = (t.fill_at + 1) % ENTRIES }
