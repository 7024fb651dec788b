-- Hexadecimal digits as text.
use Rattle.std.proofs.Common.{◌≡◌, ℕ, suc, ◌-◌, ◌/◌, ◌%◌, ◌^◌, ◌<◌, ◌≤◌, true, false, List, [], ◌∷◌, ⊎_elim, arith, eqb, ne_eqb}
use Rattle.std.specs.Fmt.{digit_glyph, digits, digits_onto, padded_integral, char_count, format_spec}
use Rattle.std.proofs.lemmas.Fmt.{hex_one_digit, hex_two_digits}
use Rattle.std.proofs.lemmas.Bool.{cases_lt}

-- the digits of a number, from the last one on, before those written so far
last_digit : (k n : ℕ) (acc : List ℕ) → n < 16 → digits_onto (suc k) 16 true n acc ≡ digit_glyph true n ∷ acc
last_digit k n acc small =
    let zero : n / 16 ≡ 0 = omega arith in
    let same : n % 16 ≡ n = omega arith in
    rw (zero, same)

next_digit : (k n : ℕ) (acc : List ℕ) → 16 ≤ n → digits_onto (suc k) 16 true n acc ≡ digits_onto k 16 true (n / 16) (digit_glyph true (n % 16) ∷ acc)
next_digit k n acc large =
    let some : eqb (n / 16) 0 ≡ false = ne_eqb _ 0 (λ e. omega arith) in
    rw some

-- what `{:04X}` writes of the number is its four digits
abbrev pub Written : ℕ → Type 0
Written n = padded_integral (format_spec 32 0 4 4 (2 ^ 64 - 1)) false [] (digits 16 true n)
    ≡ digit_glyph true (n / 4096 % 16) ∷ digit_glyph true (n / 256 % 16) ∷ digit_glyph true (n / 16 % 16) ∷ digit_glyph true (n % 16) ∷ []

of_one : (n : ℕ) → n < 16 → Written n
unfolding padded_integral char_count
of_one n small =
    let a : n / 4096 % 16 ≡ 0 = omega arith in
    let b : n / 256 % 16 ≡ 0 = omega arith in
    let c : n / 16 % 16 ≡ 0 = omega arith in
    let d : n % 16 ≡ n = omega arith in
    rw (hex_one_digit true n small, a, b, c, d)

of_two : (n : ℕ) → 16 ≤ n → n < 256 → Written n
unfolding padded_integral char_count
of_two n large small =
    let a : n / 4096 % 16 ≡ 0 = omega arith in
    let b : n / 256 % 16 ≡ 0 = omega arith in
    let c : n / 16 % 16 ≡ n / 16 = omega arith in
    rw (hex_two_digits true n large small, a, b, c)

of_three : (n : ℕ) → 256 ≤ n → n < 4096 → Written n
unfolding padded_integral char_count digits
of_three n large small =
    let a : n / 4096 % 16 ≡ 0 = omega arith in
    let b : n / 256 % 16 ≡ n / 256 = omega arith in
    let top : n / 16 / 16 ≡ n / 256 = omega arith in
    rw (next_digit 63 n [] (omega arith), next_digit 62 (n / 16) _ (omega arith), last_digit 61 (n / 16 / 16) _ (omega arith), top, a, b)

of_four : (n : ℕ) → 4096 ≤ n → n < 2 ^ 16 → Written n
unfolding padded_integral char_count digits
of_four n large small =
    let a : n / 4096 % 16 ≡ n / 4096 = omega arith in
    let next : n / 16 / 16 ≡ n / 256 = omega arith in
    let top : n / 256 / 16 ≡ n / 4096 = omega arith in
    rw (next_digit 63 n [] (omega arith), next_digit 62 (n / 16) _ (omega arith), next, next_digit 61 (n / 256) _ (omega arith), top, last_digit 60 (n / 4096) _ (omega arith), a)

pub hex_four : (n : ℕ) → n < 2 ^ 16 → Written n
hex_four n small =
    ⊎_elim (of_one n) (λ two. ⊎_elim (of_two n two) (λ three. ⊎_elim (of_three n three) (λ four. of_four n four small)
    (cases_lt n 4096)) (cases_lt n 256)) (cases_lt n 16)
