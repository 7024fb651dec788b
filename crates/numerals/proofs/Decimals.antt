-- Numbers written in decimal digits are read as what they were, and the other way round.
use Rattle.std.proofs.Common.{◌≡◌, refl, sym, ap, subst, ◌∙◌, ℕ, ◌^◌, ◌<◌, ◌≤◌, Bool, true, false, ◌&&◌, nat_le, List, [], ◌∷◌, length, arith, ◌==◌, decimal}
use native.Mathlib.Nat.{pow-le-pow_right}
use Rattle.std.specs.Char.{is_ascii_digit}
use Rattle.std.specs.Str.{all_ascii_digits}
use Rattle.std.proofs.lemmas.Bool.{and_parts, eqb-true, leb-true}
use Rattle.std.proofs.lemmas.Str.Parse.{IsNumeralModel, numerals_by_value, tells_all_ascii_digits}
use Rattle.std.proofs.lemmas.Fmt.{decimal_nonempty, digits_decimal, decimal-digits_value, digits_value-decimal}
use Rattle.numerals.specs.Decimal.{is_decimal_field, decimal_value, without_leading_zeros}

-- a number of fewer than nine digits leaves room for one more in a word
pub fewer_digits : (i : ℕ) → i < 9 → 10 ^ i ≤ 10 ^ 8
fewer_digits i fewer = pow-le-pow_right {n = 10} (omega arith) {i = i} {j = 8} (omega arith)

decimal_value_is_model : IsNumeralModel (λ ds. all_ascii_digits ds ≡ true) decimal_value
decimal_value_is_model = numerals_by_value (λ ds. all_ascii_digits ds ≡ true) tells_all_ascii_digits

pub read_back : (n : ℕ) → n < 2 ^ 64 → decimal_value (decimal n) ≡ n
read_back n small = digits_value-decimal decimal_value_is_model n small

digits_written : (ds : List ℕ) → all_ascii_digits ds ≡ true → 0 < length ds → decimal_value ds < 2 ^ 64 → decimal (decimal_value ds) ≡ without_leading_zeros ds
digits_written [] digits some small = absurd (omega arith)
digits_written (b ∷ []) digits some small = decimal-digits_value decimal_value_is_model (b ∷ []) digits some (λ e. refl) small
digits_written (b ∷ c ∷ cs) digits some small = by_first (b == 48) refl (digits_written (c ∷ cs))
  where
    by_first : (t : Bool) → (b == 48) ≡ t
        → (all_ascii_digits (c ∷ cs) ≡ true → 0 < length (c ∷ cs) → decimal_value (c ∷ cs) < 2 ^ 64 → decimal (decimal_value (c ∷ cs)) ≡ without_leading_zeros (c ∷ cs))
        → decimal (decimal_value (b ∷ c ∷ cs)) ≡ without_leading_zeros (b ∷ c ∷ cs)
    by_first true e rest =
        let zero : b ≡ 48 = eqb-true b 48 e in
        let fits : decimal_value (c ∷ cs) < 2 ^ 64 = subst (λ d. decimal_value (d ∷ c ∷ cs) < 2 ^ 64) zero small in
        subst (λ d. decimal (decimal_value (d ∷ c ∷ cs)) ≡ without_leading_zeros (d ∷ c ∷ cs)) (sym zero) (rest (and_parts (is_ascii_digit b) (all_ascii_digits (c ∷ cs)) digits).1 (omega arith) fits)
    by_first false e rest = decimal-digits_value decimal_value_is_model (b ∷ c ∷ cs) digits some (λ zero_first. absurd (grind (arith, e, zero_first))) small ∙ rw e refl

pub written : (ds : List ℕ) → is_decimal_field ds ≡ true → decimal_value ds < 2 ^ 64 → decimal (decimal_value ds) ≡ without_leading_zeros ds
written ds form small =
    let parts = and_parts (nat_le 1 (length ds)) (nat_le (length ds) 9 && all_ascii_digits ds) form in
    digits_written ds (and_parts (nat_le (length ds) 9) (all_ascii_digits ds) parts.1).1 (omega (arith, leb-true 1 (length ds) parts.0)) small

pub decimal_digits_form : (n : ℕ) → n < 2 ^ 64 → (all_ascii_digits (decimal n) ≡ true) × (without_leading_zeros (decimal n) ≡ decimal n)
decimal_digits_form n small =
    let digits = digits_decimal decimal_value_is_model n small in
    let same = read_back n small in
    (digits, sym (digits_written (decimal n) digits (decimal_nonempty n small) (omega (arith, same))) ∙ ap decimal same)
