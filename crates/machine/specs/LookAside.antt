-- What the look-aside holds: for each kind of access a page of 4 KiB, and the frame to which the last access led.
use Rattle.std.specs.Prelude.{◌≡◌, ℕ, ◌/◌, ◌^◌, ◌==◌, cond, Some, None, Option, Ok}
use Rattle.bus.specs.Memory.{address}
use Rattle.bus.specs.declared.address.PhysAddr.{PhysAddr}
use Rattle.pages.specs.declared.access_kind.AccessKind.{AccessKind}
use Rattle.pages.specs.declared.access_kind.AccessKind.TheVariants.{Fetch, Load, Store}
use Rattle.pages.specs.declared.page_size.PageSize.TheVariants.{Small}
use Rattle.tlb.specs.declared.table.Tlb.{Tlb}
use Rattle.csr.specs.declared.mode.Mode.{Mode}
use Rattle.csr.specs.declared.window.Windows.{Windows}
use Rattle.translation.specs.Translation.{place_in, translation}
use Rattle.machine.specs.declared.look_aside.KnownPage.{KnownPage}
use Rattle.machine.specs.declared.look_aside.LookAside.{LookAside}
use Rattle.machine.specs.Access.{placed}

abbrev pub nothing_known : LookAside
nothing_known = record { fetch = None; load = None; store = None }

abbrev pub known_page : LookAside → AccessKind → Option KnownPage
known_page l Fetch = l.fetch
known_page l Load = l.load
known_page l Store = l.store

-- where the page's frame has an address
abbrev pub address_in : KnownPage → ℕ → PhysAddr
address_in k at = address (place_in Small k.frame.0 at)

abbrev pub found_in : Option KnownPage → ℕ → Option PhysAddr
found_in None at = None
found_in (Some k) at = cond (at / 2 ^ 12 == k.page) (Some (address_in k at)) None

abbrev pub found : LookAside → AccessKind → ℕ → Option PhysAddr
found l kind at = found_in (known_page l kind) at

-- the page that an access makes known which led from one address to another
abbrev pub page_known_by : ℕ → ℕ → KnownPage
page_known_by at to = record { page = at / 2 ^ 12; frame = record { 0 = to / 2 ^ 12 } }

abbrev pub remembered : LookAside → AccessKind → KnownPage → LookAside
remembered l Fetch k = record l { fetch = Some k }
remembered l Load k = record l { load = Some k }
remembered l Store k = record l { store = Some k }

-- every address of the page is translated to that frame now
abbrev pub LeadsToItsFrame : Mode → Windows → Tlb → AccessKind → Option KnownPage → Type 0
LeadsToItsFrame mode ws tlb kind None = Unit {0}
LeadsToItsFrame mode ws tlb kind (Some k) = (at : ℕ) → at / 2 ^ 12 ≡ k.page → placed at (translation mode ws tlb kind at) ≡ Ok (address_in k at)

-- every page that is known leads to its frame
pub record Agrees (l : LookAside) (mode : Mode) (ws : Windows) (tlb : Tlb) : Type 0 where
  pub fetch : LeadsToItsFrame mode ws tlb Fetch l.fetch
  pub load : LeadsToItsFrame mode ws tlb Load l.load
  pub store : LeadsToItsFrame mode ws tlb Store l.store
