-- Numbers in decimal digits.
use Rattle.std.specs.Prelude.{ℕ, Bool, cond, ◌&&◌, List, [], ◌∷◌, length, ◌==◌, nat_le}
use Rattle.std.specs.Str.{all_ascii_digits}
use Rattle.std.specs.Str.Parse.{digits_value}

-- one to nine digits, zeros before the number allowed
abbrev pub is_decimal_field : List ℕ → Bool
is_decimal_field text = nat_le 1 (length text) && (nat_le (length text) 9 && all_ascii_digits text)

abbrev pub decimal_value : List ℕ → ℕ
decimal_value text = digits_value 10 text

-- without the zeros before the first other digit, or before the last digit if all are zero
abbrev pub without_leading_zeros : List ℕ → List ℕ
without_leading_zeros [] = []
without_leading_zeros (b ∷ []) = b ∷ []
without_leading_zeros (b ∷ c ∷ bs) = cond (b == 48) (without_leading_zeros (c ∷ bs)) (b ∷ c ∷ bs)
