-- The number that each refusal goes by, and the address that it names.
use Rattle.std.specs.Prelude.{ℕ, Some, None, Option}
use Rattle.bus.specs.declared.address.PhysAddr.{PhysAddr}
use Rattle.bus.specs.declared.refusal.Refusal.{Refusal}
use Rattle.bus.specs.declared.refusal.Refusal.TheVariants.{Misaligned, Absent, Fixed}
use Rattle.bus.specs.declared.refusal.BoardRefusal.{BoardRefusal}
use Rattle.bus.specs.declared.refusal.BoardRefusal.TheVariants.{Uneven, PastEnd}

abbrev pub refusal_number : Refusal → ℕ
refusal_number Misaligned = 7
refusal_number (Absent at) = 8
refusal_number (Fixed at) = 9

abbrev pub refusal_address : Refusal → Option PhysAddr
refusal_address Misaligned = None
refusal_address (Absent at) = Some at
refusal_address (Fixed at) = Some at

abbrev pub board_refusal_number : BoardRefusal → ℕ
board_refusal_number Uneven = 1
board_refusal_number PastEnd = 2
