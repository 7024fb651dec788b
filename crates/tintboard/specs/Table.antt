-- The tint table on a bus.
use Rattle.std.specs.Prelude.{ℕ, List, [], ◌∷◌}
use Rattle.bus.specs.declared.access.Access.{Access}
use Rattle.bus.specs.Memory.{address, address_after}
use Rattle.calls.specs.declared.call.Call.{Call}
use Rattle.calls.specs.declared.call.Call.TheVariants.{Write}
use Rattle.tintboard.specs.declared.table.Tint.{Tint}

-- of a row at a: the colorant in its first byte, the shots in its upper half
abbrev pub colorant_access : ℕ → Access
colorant_access a = record { at = address a; width = 1 }

abbrev pub shots_access : ℕ → Access
shots_access a = record { at = address_after (address a) 2; width = 2 }

-- the two writes that store a row at a
abbrev pub row_calls : ℕ → Tint → List Call
row_calls a row = Write (colorant_access a) row.colorant ∷ Write (shots_access a) row.shots ∷ []
