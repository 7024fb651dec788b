-- Which entries an invalidation empties, and what it leaves of the TLB.
use Rattle.std.specs.Prelude.{ℕ, Bool, true, false, cond, not, ◌==◌, ◌&&◌, Some, None, Option, map}
use Rattle.pages.specs.declared.address.VirtAddr.{VirtAddr}
use Rattle.tlb.specs.declared.entry.Entry.{Entry}
use Rattle.tlb.specs.declared.invalidation.Invalidation.{Invalidation}
use Rattle.tlb.specs.declared.invalidation.Invalidation.TheVariants.{All, Global, NotGlobal, NotGlobalOfAsid, NotGlobalOfAsidAt, GlobalOrOfAsidAt}
use Rattle.tlb.specs.declared.table.Tlb.{Tlb}
use Rattle.tlb.specs.Entries.{covers, maps_for}

-- INVTLB's op, with the ASID and the address that its registers hold
abbrev pub numbered : ℕ → ℕ → VirtAddr → Option Invalidation
numbered op asid at =
    cond (op == 0) (Some All)
    (cond (op == 1) (Some All)
    (cond (op == 2) (Some Global)
    (cond (op == 3) (Some NotGlobal)
    (cond (op == 4) (Some (NotGlobalOfAsid asid))
    (cond (op == 5) (Some (NotGlobalOfAsidAt asid at))
    (cond (op == 6) (Some (GlobalOrOfAsidAt asid at))
    None))))))

abbrev pub selects : Invalidation → Entry → Bool
selects All e = true
selects Global e = e.global
selects NotGlobal e = not e.global
selects (NotGlobalOfAsid asid) e = not e.global && e.asid == asid
selects (NotGlobalOfAsidAt asid at) e = not e.global && e.asid == asid && covers e at.0
selects (GlobalOrOfAsidAt asid at) e = maps_for e at.0 asid

-- an entry of which E is cleared
abbrev pub emptied : Entry → Entry
emptied e = record e { exists = false }

abbrev pub invalidated_entry : Invalidation → Entry → Entry
invalidated_entry which e = cond (selects which e) (emptied e) e

-- each selected entry is emptied, and all else stays
abbrev pub invalidated : Invalidation → Tlb → Tlb
invalidated which t = record t { entries = map (invalidated_entry which) t.entries }
