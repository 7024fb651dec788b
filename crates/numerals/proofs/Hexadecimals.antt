-- Words written in hexadecimal digits are read as what they were, and the other way round.
use Rattle.std.proofs.Common.{◌≡◌, refl, ap, subst, ◌∙◌, ℕ, suc, ◌+◌, ◌*◌, ◌/◌, ◌%◌, ◌^◌, ◌<◌, ◌≤◌, true, List, [], ◌∷◌, length, arith, pow-suc, mul_comm, ◌==◌}
use native.Mathlib.Nat.{pow-le-pow_right, div-div-eq-div-mul}
use Rattle.std.proofs.lemmas.Bool.{and_parts, eqb-true}
use Rattle.std.proofs.lemmas.Bool.Decides.{nat_tests}
use Rattle.std.specs.Char.{digit_value}
use Rattle.std.specs.Fmt.{digit_glyph}
use Rattle.std.specs.Str.Parse.{digits_value_after}
use Rattle.numerals.specs.Hexadecimal.{is_hex_digit, all_hex_digits, is_hex_field, hex_value, hex_digit_at, lowest_digits, hex_text}

-- a number of fewer than eight digits leaves room for one more in a word
pub fewer_digits : (i : ℕ) → i < 8 → 16 ^ i ≤ 16 ^ 7
fewer_digits i fewer = pow-le-pow_right {n = 16} (omega arith) {i = i} {j = 7} (omega arith)

digit_read_back : (d : ℕ) → d < 16 → (is_hex_digit (digit_glyph true d) ≡ true) × (digit_value (digit_glyph true d) ≡ d)
digit_read_back d small = grind arith

digit_written : (b : ℕ) → is_hex_digit b ≡ true → (digit_glyph true (digit_value b) ≡ b) × (digit_value b < 16)
digit_written b digit = grind (arith, nat_tests)

read_at : (word k : ℕ) → (is_hex_digit (hex_digit_at word k) ≡ true) × (digit_value (hex_digit_at word k) ≡ word / 16 ^ k % 16)
read_at word k = digit_read_back (word / 16 ^ k % 16) (omega arith)

pub read_back : (word : ℕ) → word < 2 ^ 32 → (is_hex_field (hex_text word) ≡ true) × (hex_value (hex_text word) ≡ word)
read_back word small = (
  rw ((read_at word 7).0, (read_at word 6).0, (read_at word 5).0, (read_at word 4).0, (read_at word 3).0, (read_at word 2).0, (read_at word 1).0, (read_at word 0).0) refl,
  omega (arith, small, (read_at word 7).1, (read_at word 6).1, (read_at word 5).1, (read_at word 4).1, (read_at word 3).1, (read_at word 2).1, (read_at word 1).1, (read_at word 0).1),
)

written_after : (n : ℕ) (ds : List ℕ) → all_hex_digits ds ≡ true
    → (lowest_digits (length ds) (digits_value_after 16 n ds) ≡ ds) × (digits_value_after 16 n ds / 16 ^ length ds ≡ n)
written_after n [] digits = (refl, omega arith)
written_after n (b ∷ bs) digits =
    let first = digit_written b (and_parts (is_hex_digit b) (all_hex_digits bs) digits).0 in
    let rest = written_after (n * 16 + digit_value b) bs (and_parts (is_hex_digit b) (all_hex_digits bs) digits).1 in
    let v : ℕ = digits_value_after 16 (n * 16 + digit_value b) bs in
    let apart : v / 16 ^ suc (length bs) ≡ v / 16 ^ length bs / 16 = rw (div-div-eq-div-mul, pow-suc, mul_comm (16 ^ length bs) 16) refl in (
      ap (λ d. digit_glyph true d ∷ lowest_digits (length bs) v) (omega (arith, rest.1, first.1)) ∙ ap (λ d. d ∷ lowest_digits (length bs) v) first.0 ∙ ap (λ ds. b ∷ ds) rest.0,
      omega (arith, apart, rest.1, first.1),
    )

pub written : (ds : List ℕ) → is_hex_field ds ≡ true → hex_text (hex_value ds) ≡ ds
written ds form =
    let parts = and_parts (length ds == 8) (all_hex_digits ds) form in
    subst (λ k. lowest_digits k (hex_value ds) ≡ ds) (eqb-true (length ds) 8 parts.0) (written_after 0 ds parts.1).0
