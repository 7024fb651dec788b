-- The widths that an access may have, and the check of one.
use Rattle.std.specs.Prelude.{ℕ, cond, Ok, Err, Result, ◌==◌}
use Rattle.bus.specs.declared.access.Width.{Width}
use Rattle.bus.specs.declared.access.Width.TheVariants.{Byte, Half, Word}
use Rattle.bus.specs.declared.refusal.Refusal.{Refusal}
use Rattle.bus.specs.declared.refusal.Refusal.TheVariants.{Misaligned}
use Rattle.bus.specs.Memory.{aligned}

abbrev pub width_bytes : Width → ℕ
width_bytes Byte = 1
width_bytes Half = 2
width_bytes Word = 4

-- the width of n bytes
abbrev pub width_of : ℕ → Result Width Refusal
width_of n = cond (n == 1) (Ok Byte) (cond (n == 2) (Ok Half) (cond (n == 4) (Ok Word) (Err Misaligned)))

-- the width of an access of w bytes at a, if it is aligned
abbrev pub access_check : ℕ → ℕ → Result Width Refusal
access_check a w = cond (aligned a w) (width_of w) (Err Misaligned)
