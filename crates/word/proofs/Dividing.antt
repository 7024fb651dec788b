-- int_div and int_rem give what Divides asks of a quotient and a remainder, and so do the words that are made of them.
use Rattle.std.proofs.Common.{◌≡◌, ◌≢◌, ℕ, zero, suc, ◌-◌, ◌^◌, ◌<◌, ℤ, pos, negsuc, sym, refl, ap, ◌∙◌, div-le_self, arith, w32}
use Rattle.std.specs.Prelude.{◌<ℤ◌, int_div, int_rem, unsigned_abs}
use Rattle.std.specs.Int.{cast_unsigned}
use Rattle.std.specs.Int.RustNames.{FitsSigned}
use Rattle.std.proofs.lemmas.Int.{ints, of_z-to_z, quot-rem, rem_below}
use Rattle.std.proofs.lemmas.Bool.{ne_eqb}
use Rattle.std.proofs.lemmas.Bool.Decides.{nat_tests}
use Rattle.std.proofs.Math.Nat.{mod-le, div-lt_self}
use Rattle.std.specs.Int.Signed.{mag_rem}
use Rattle.word.specs.Word.{signed, low_word, quotient_signed, remainder_signed}
use Rattle.word.specs.Division.{Divides, DividesSigned}

int_rem_negative : (a b : ℤ) → int_rem a b <ℤ pos 0 → a <ℤ pos 0
int_rem_negative (pos a) b below = omega (arith, ints)
int_rem_negative (negsuc a) b below = omega (arith, ints)

int_rem_positive : (a b : ℤ) → pos 0 <ℤ int_rem a b → pos 0 <ℤ a
int_rem_positive (pos a) b above = omega (arith, ints, mod-le a (unsigned_abs b))
int_rem_positive (negsuc a) b above = omega (arith, ints)

divides : (a b : ℤ) → b ≢ pos 0 → Divides a b (int_div a b) (int_rem a b)
divides a b some = record {
  whole = quot-rem a b;
  smaller = rem_below a b (grind (arith, ints));
  negative = int_rem_negative a b;
  positive = int_rem_positive a b;
}

-- the quotient of two signed words is one, but for -2 ^ 31 by -1
int_div_fits : (a b : ℤ) → FitsSigned w32 a → (a ≡ negsuc (2 ^ 31 - 1) → b ≢ negsuc 0) → FitsSigned w32 (int_div a b)
int_div_fits (pos a) (pos b) fits no_overflow = omega (arith, ints, div-le_self a b)
int_div_fits (pos a) (negsuc b) fits no_overflow = omega (arith, ints, div-le_self a (suc b))
int_div_fits (negsuc a) (pos b) fits no_overflow = omega (arith, ints, div-le_self (suc a) b)
int_div_fits (negsuc a) (negsuc zero) fits no_overflow =
    let other : a ≢ 2147483647 = λ e. no_overflow (ap negsuc e) refl in
    omega (arith, ints)
int_div_fits (negsuc a) (negsuc (suc b)) fits no_overflow = omega (arith, ints, div-lt_self {n = suc a} {k = suc (suc b)})

pub signed_of_low_word : (z : ℤ) → FitsSigned w32 z → signed (low_word z) ≡ z
signed_of_low_word (pos n) fits = grind (arith, ints, nat_tests)
signed_of_low_word (negsuc n) fits = grind (arith, ints, nat_tests)

word_from_signed : (a : ℕ) → a < 2 ^ 32 → (z : ℤ) → signed a ≡ z → a ≡ cast_unsigned w32 z
word_from_signed a fits z e = sym (of_z-to_z w32 a fits) ∙ ap (cast_unsigned w32) e

pub divides_signed : (a b : ℕ) → a < 2 ^ 32 → b < 2 ^ 32 → DividesSigned a b (quotient_signed a b) (remainder_signed a b)
divides_signed a b fits_a fits_b some no_overflow =
    let x = signed a in
    let y = signed b in
    let fits_x : FitsSigned w32 x = omega (arith, ints) in
    let fits_q : FitsSigned w32 (int_div x y) = int_div_fits x y fits_x (λ low minus. no_overflow (word_from_signed a fits_a _ low) (word_from_signed b fits_b _ minus)) in
    let fits_r : FitsSigned w32 (int_rem x y) = record { sfits = omega (arith, mag_rem x y, fits_x) } in
    rw (ne_eqb b 0 some, signed_of_low_word (int_div x y) fits_q, signed_of_low_word (int_rem x y) fits_r) (divides x y (λ zero_y. some (word_from_signed b fits_b _ zero_y)))
