-- Which addresses an entry maps, for whom, and by which of its two pages.
use Rattle.std.specs.Prelude.{ℕ, ◌/◌, ◌%◌, ◌^◌, Bool, false, cond, ◌==◌, ◌&&◌, ◌||◌}
use Rattle.pages.specs.declared.page_size.PageSize.{PageSize}
use Rattle.pages.specs.declared.page_size.PageSize.TheVariants.{Small, Large}
use Rattle.pages.specs.declared.half.Half.{Half}
use Rattle.tlb.specs.declared.entry.Entry.{Entry}

abbrev pub empty_half : Half
empty_half = record { valid = false; dirty = false; plv = 0; mat = 0; frame = record { 0 = 0 } }

-- an entry that is empty, with a page size of 4 KiB and all else 0
abbrev pub empty : Entry
empty = record { exists = false; asid = 0; global = false; page_size = Small; vppn = 0; even = empty_half; odd = empty_half }

-- whether an address and a pair of small pages have the same bits from 31 down to PS + 1
abbrev pub same_pair : PageSize → ℕ → ℕ → Bool
same_pair Small vppn at = at / 2 ^ 13 == vppn
same_pair Large vppn at = at / 2 ^ 22 == vppn / 2 ^ 9

abbrev pub covers : Entry → ℕ → Bool
covers e at = same_pair e.page_size e.vppn at

-- whether it maps the address for a program of that ASID, if it exists
abbrev pub maps_for : Entry → ℕ → ℕ → Bool
maps_for e at asid = (e.global || e.asid == asid) && covers e at

abbrev pub fits : Entry → ℕ → ℕ → Bool
fits e at asid = e.exists && maps_for e at asid

-- bit PS of an address
abbrev pub odd : PageSize → ℕ → Bool
odd Small at = at / 2 ^ 12 % 2 == 1
odd Large at = at / 2 ^ 21 % 2 == 1

abbrev pub half : Entry → ℕ → Half
half e at = cond (odd e.page_size at) e.odd e.even
