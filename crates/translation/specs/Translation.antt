-- How an address is translated: direct, through a window, or through the TLB.
use Rattle.std.specs.Prelude.{ℕ, ◌+◌, ◌*◌, ◌/◌, ◌%◌, ◌^◌, Bool, true, false, cond, not, nat_lt, ◌==◌, ◌&&◌, Some, None, Option, Ok, Err, Result}
use Rattle.bus.specs.Memory.{address}
use Rattle.bus.specs.declared.address.PhysAddr.{PhysAddr}
use Rattle.pages.specs.declared.access_kind.AccessKind.{AccessKind}
use Rattle.pages.specs.declared.access_kind.AccessKind.TheVariants.{Fetch, Load, Store}
use Rattle.pages.specs.declared.privilege.Privilege.{Privilege}
use Rattle.pages.specs.declared.privilege.Privilege.TheVariants.{Plv0, Plv3}
use Rattle.pages.specs.declared.page_size.PageSize.{PageSize}
use Rattle.pages.specs.declared.page_size.PageSize.TheVariants.{Small, Large}
use Rattle.pages.specs.declared.half.Half.{Half}
use Rattle.pages.specs.Kinds.{plv}
use Rattle.tlb.specs.declared.entry.Entry.{Entry}
use Rattle.tlb.specs.declared.table.Tlb.{Tlb}
use Rattle.tlb.specs.Entries.{half}
use Rattle.tlb.specs.Searching.{entry, find}
use Rattle.csr.specs.declared.exception.PageFault.{PageFault}
use Rattle.csr.specs.declared.exception.PageFault.TheVariants.{Tlbr, Pif, Pil, Pis, Ppi, Pme}
use Rattle.csr.specs.declared.mode.Mode.{Mode}
use Rattle.csr.specs.declared.mode.TranslationMode.{TranslationMode}
use Rattle.csr.specs.declared.mode.TranslationMode.TheVariants.{Direct, Mapped}
use Rattle.csr.specs.declared.window.Window.{Window}
use Rattle.csr.specs.declared.window.Windows.{Windows}

-- a physical address, and how it is accessed
abbrev pub Place : Type 0
Place = PhysAddr × ℕ

abbrev pub place : ℕ → ℕ → Place
place p mat = (address p, mat)

-- DATF for a fetch, DATM for a load and a store
abbrev pub direct_type : Mode → AccessKind → ℕ
direct_type mode Fetch = mode.datf
direct_type mode Load = mode.datm
direct_type mode Store = mode.datm

abbrev pub direct : Mode → AccessKind → ℕ → Place
direct mode kind at = place at (direct_type mode kind)

-- the window's bit for the privilege level
abbrev pub admits : Window → Privilege → Bool
admits w Plv0 = w.plv0
admits w Plv3 = w.plv3

-- that bit is 1, and VSEG equals the address's bits 31:29
abbrev pub applies : Window → Privilege → ℕ → Bool
applies w level at = admits w level && at / 2 ^ 29 == w.vseg

-- the second window, or else the first
abbrev pub window_for : Windows → Privilege → ℕ → Option Window
window_for ws level at = cond (applies ws.dmw1 level at) (Some ws.dmw1) (cond (applies ws.dmw0 level at) (Some ws.dmw0) None)

-- PSEG in the place of those bits
abbrev pub through_window : Window → ℕ → Place
through_window w at = place (w.pseg * 2 ^ 29 + at % 2 ^ 29) w.mat

-- V 0, by kind of access
abbrev pub invalid : AccessKind → PageFault
invalid Fetch = Pif
invalid Load = Pil
invalid Store = Pis

abbrev pub is_store : AccessKind → Bool
is_store Fetch = false
is_store Load = false
is_store Store = true

-- V first, then PLV, then D of a store
abbrev pub permission : Half → Privilege → AccessKind → Result (Unit {0}) PageFault
permission h level kind =
    cond (not h.valid) (Err (invalid kind))
    (cond (nat_lt h.plv (plv level)) (Err Ppi)
    (cond (is_store kind && not h.dirty) (Err Pme)
    (Ok tt)))

-- the frame's bits from PS up, and the address's below
abbrev pub place_in : PageSize → ℕ → ℕ → ℕ
place_in Small frame at = frame * 2 ^ 12 + at % 2 ^ 12
place_in Large frame at = frame / 2 ^ 9 * 2 ^ 21 + at % 2 ^ 21

abbrev pub in_page : PageSize → Half → ℕ → Place
in_page size h at = place (place_in size h.frame.0 at) h.mat

abbrev pub if_permitted : Result (Unit {0}) PageFault → Place → Result Place PageFault
if_permitted (Err fault) to = Err fault
if_permitted (Ok _) to = Ok to

abbrev pub through_page : Entry → Privilege → AccessKind → ℕ → Result Place PageFault
through_page e level kind at = if_permitted (permission (half e at) level kind) (in_page e.page_size (half e at) at)

-- no entry that fits is TLBR
abbrev pub through_found : Option ℕ → Mode → Tlb → AccessKind → ℕ → Result Place PageFault
through_found None mode tlb kind at = Err Tlbr
through_found (Some i) mode tlb kind at = through_page (entry tlb i) mode.plv kind at

abbrev pub through_tlb : Mode → Tlb → AccessKind → ℕ → Result Place PageFault
through_tlb mode tlb kind at = through_found (find tlb at mode.asid) mode tlb kind at

-- a window before the TLB
abbrev pub by_window : Option Window → Mode → Tlb → AccessKind → ℕ → Result Place PageFault
by_window (Some w) mode tlb kind at = Ok (through_window w at)
by_window None mode tlb kind at = through_tlb mode tlb kind at

abbrev pub mapped : Mode → Windows → Tlb → AccessKind → ℕ → Result Place PageFault
mapped mode ws tlb kind at = by_window (window_for ws mode.plv at) mode tlb kind at

abbrev pub by_mode : TranslationMode → Mode → Windows → Tlb → AccessKind → ℕ → Result Place PageFault
by_mode Direct mode ws tlb kind at = Ok (direct mode kind at)
by_mode Mapped mode ws tlb kind at = mapped mode ws tlb kind at

abbrev pub translation : Mode → Windows → Tlb → AccessKind → ℕ → Result Place PageFault
translation mode ws tlb kind at = by_mode mode.translation mode ws tlb kind at
