-- Where an access of the program leads: alignment first, then translation.
use Rattle.std.specs.Prelude.{ℕ, ◌%◌, ◌^◌, Bool, true, false, ◌==◌, Ok, Err, Result}
use Rattle.bus.specs.declared.address.PhysAddr.{PhysAddr}
use Rattle.pages.specs.declared.access_kind.AccessKind.{AccessKind}
use Rattle.pages.specs.declared.access_kind.AccessKind.TheVariants.{Fetch, Load, Store}
use Rattle.pages.specs.declared.address.VirtAddr.{VirtAddr}
use Rattle.csr.specs.declared.exception.Exception.{Exception}
use Rattle.csr.specs.declared.exception.Exception.TheVariants.{Adef, Ale, Page}
use Rattle.csr.specs.declared.exception.PageFault.{PageFault}
use Rattle.translation.specs.Translation.{Place, translation}
use Rattle.actions.specs.User.{virtual}
use Rattle.machine.specs.declared.state.State.{State}

-- a PC that is no multiple of 4 is ADEF, the address of a load or store that is no multiple of its width ALE
abbrev pub misalignment : AccessKind → ℕ → Exception
misalignment Fetch at = Adef
misalignment Load at = Ale (virtual at)
misalignment Store at = Ale (virtual at)

-- what the address is translated to in this state
abbrev pub translated : State → AccessKind → ℕ → Result Place PageFault
translated s kind at = translation s.registers.mode s.registers.windows s.tlb kind at

-- there being no cache, the access type makes no difference
abbrev pub placed : ℕ → Result Place PageFault → Result PhysAddr Exception
placed at (Ok to) = Ok to.0
placed at (Err fault) = Err (Page fault (virtual at))

abbrev pub if_aligned : Bool → AccessKind → ℕ → Result Place PageFault → Result PhysAddr Exception
if_aligned true kind at to = placed at to
if_aligned false kind at to = Err (misalignment kind at)

abbrev pub locate_at : State → AccessKind → ℕ → ℕ → Result PhysAddr Exception
locate_at s kind width at = if_aligned (at % width == 0) kind at (translated s kind at)

-- an address has 32 bits
abbrev pub locate : State → AccessKind → ℕ → VirtAddr → Result PhysAddr Exception
locate s kind width at = locate_at s kind width (at.0 % 2 ^ 32)
