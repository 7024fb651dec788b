-- What translation keeps, in terms of pages, segments and frames.
use Rattle.std.specs.Prelude.{◌≡◌, ℕ, ◌+◌, ◌*◌, ◌/◌, ◌%◌, ◌^◌, true, false, Ok, Err, Result}
use Rattle.pages.specs.declared.access_kind.AccessKind.{AccessKind}
use Rattle.pages.specs.declared.access_kind.AccessKind.TheVariants.{Load}
use Rattle.pages.specs.declared.page_size.PageSize.{PageSize}
use Rattle.pages.specs.declared.page_size.PageSize.TheVariants.{Small, Large}
use Rattle.tlb.specs.declared.entry.Entry.{Entry}
use Rattle.tlb.specs.declared.table.Tlb.{Tlb}
use Rattle.tlb.specs.Entries.{half}
use Rattle.tlb.specs.Searching.{entry, FitsFirst}
use Rattle.csr.specs.declared.exception.PageFault.{PageFault}
use Rattle.csr.specs.declared.mode.Mode.{Mode}
use Rattle.csr.specs.declared.mode.TranslationMode.TheVariants.{Direct, Mapped}
use Rattle.csr.specs.declared.window.Window.{Window}
use Rattle.csr.specs.declared.window.Windows.{Windows}
use Rattle.translation.specs.Translation.{Place, place, applies, translation}

-- the lowest 12 bits are the address's own
abbrev pub SameOffset : ℕ → ℕ → Type 0
SameOffset at p = p % 2 ^ 12 ≡ at % 2 ^ 12

-- p is in the segment that the window leads to, and its lower 29 bits are the address's
abbrev pub InSegment : Window → ℕ → ℕ → Type 0
InSegment w at p = (p / 2 ^ 29 ≡ w.pseg) × (p % 2 ^ 29 ≡ at % 2 ^ 29)

-- p is in that frame, or in the 2 MiB of which it is a part, and its lower bits are the address's
abbrev pub InFrame : PageSize → ℕ → ℕ → ℕ → Type 0
InFrame Small frame at p = (p / 2 ^ 12 ≡ frame) × (p % 2 ^ 12 ≡ at % 2 ^ 12)
InFrame Large frame at p = (p / 2 ^ 21 ≡ frame / 2 ^ 9) × (p % 2 ^ 21 ≡ at % 2 ^ 21)

abbrev pub InPage : Entry → ℕ → ℕ → Type 0
InPage e at p = InFrame e.page_size (half e at).frame.0 at p

-- the ways from an address to p
pub data LeadsTo (mode : Mode) (ws : Windows) (tlb : Tlb) (at p : ℕ) : Type 0 where
  direct : mode.translation ≡ Direct → p ≡ at → LeadsTo mode ws tlb at p
  window1 : mode.translation ≡ Mapped → applies ws.dmw1 mode.plv at ≡ true → InSegment ws.dmw1 at p
      → LeadsTo mode ws tlb at p
  window0 : mode.translation ≡ Mapped → applies ws.dmw1 mode.plv at ≡ false → applies ws.dmw0 mode.plv at ≡ true
      → InSegment ws.dmw0 at p → LeadsTo mode ws tlb at p
  page : (i : ℕ) → mode.translation ≡ Mapped → applies ws.dmw1 mode.plv at ≡ false → applies ws.dmw0 mode.plv at ≡ false
      → FitsFirst tlb.entries at mode.asid i → InPage (entry tlb i) at p → LeadsTo mode ws tlb at p

-- a load of a byte at the address is granted, and reaches p
abbrev pub LoadsFrom : Mode → Windows → Tlb → ℕ → ℕ → Type 0
LoadsFrom mode ws tlb at p = (mat : ℕ) × (translation mode ws tlb Load at ≡ Ok (place p mat))

-- what another address of the same 4 KiB is translated to, if this is what the first is
abbrev pub moved : ℕ → Result Place PageFault → Result Place PageFault
moved near (Ok to) = Ok (place (to.0.0 / 2 ^ 12 * 2 ^ 12 + near % 2 ^ 12) to.1)
moved near (Err fault) = Err fault

-- the addresses of 4 KiB are translated together, and are refused together
abbrev pub WholePage : Mode → Windows → Tlb → AccessKind → ℕ → Result Place PageFault → Type 0
WholePage mode ws tlb kind at r = (near : ℕ) → near / 2 ^ 12 ≡ at / 2 ^ 12 → translation mode ws tlb kind near ≡ moved near r
