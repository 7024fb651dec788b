use Rattle.std.proofs.Common.{sym}
use Rattle.std.proofs.Math.Nat.{mod-eq_of_lt}
use Rattle.pages.proofs.Widths.{fits_more}
use Rattle.pages.proofs.bits.Bits.of_low_bits.Goals as goal

pub invariant_of-result : goal.invariant_of-result
invariant_of-result g c = fits_more _ _ c.ranges.number.fits c.if-this-lt32.false

pub returns-else-this-lt32 : goal.returns-else-this-lt32
returns-else-this-lt32 g c = sym (mod-eq_of_lt (fits_more _ _ c.ranges.number.fits c.if-this-lt32.false))
