-- Which word a line of eight hexadecimal digits means.
use Rattle.std.specs.Prelude.{ℕ, Bool, true, cond, ◌&&◌, List, [], ◌∷◌, length, Some, None, Option, ◌==◌}
use Rattle.std.specs.Char.{is_digit}
use Rattle.std.specs.Str.Parse.{digits_value}

-- '0' to '9', 'A' to 'F', 'a' to 'f'
abbrev pub all_hex_digits : List ℕ → Bool
all_hex_digits [] = true
all_hex_digits (c ∷ cs) = is_digit c 16 && all_hex_digits cs

abbrev pub word_of : List ℕ → Option ℕ
word_of line = cond (length line == 8 && all_hex_digits line) (Some (digits_value 16 line)) None
