-- The numbers of kinds of access, privilege levels and page sizes, and what a field of two legal values keeps of a number written to it.
use Rattle.std.specs.Prelude.{ℕ, cond, ◌==◌}
use Rattle.pages.specs.declared.access_kind.AccessKind.{AccessKind}
use Rattle.pages.specs.declared.access_kind.AccessKind.TheVariants.{Fetch, Load, Store}
use Rattle.pages.specs.declared.privilege.Privilege.{Privilege}
use Rattle.pages.specs.declared.privilege.Privilege.TheVariants.{Plv0, Plv3}
use Rattle.pages.specs.declared.page_size.PageSize.{PageSize}
use Rattle.pages.specs.declared.page_size.PageSize.TheVariants.{Small, Large}

abbrev pub kind_number : AccessKind → ℕ
kind_number Fetch = 1
kind_number Load = 2
kind_number Store = 3

abbrev pub plv : Privilege → ℕ
plv Plv0 = 0
plv Plv3 = 3

-- 0 and 3 are legal; any other number leaves the field as it was
abbrev pub plv_written : Privilege → ℕ → Privilege
plv_written old number = cond (number == 0) Plv0 (cond (number == 3) Plv3 old)

abbrev pub ps : PageSize → ℕ
ps Small = 12
ps Large = 21

-- 12 and 21 are legal; any other number leaves the field as it was
abbrev pub ps_written : PageSize → ℕ → PageSize
ps_written old number = cond (number == 12) Small (cond (number == 21) Large old)
