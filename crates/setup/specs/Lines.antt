-- The forms of a set-up's lines.
use Rattle.std.specs.Prelude.{◌≡◌, ℕ, ◌-◌, Bool, true, cond, ◌&&◌, List, [], ◌∷◌, ◌++◌, length, take, drop, codes, slice_index, Some, None, Option, ◌==◌, nat_le}
use Rattle.numerals.specs.Hexadecimal.{is_hex_field}
use Rattle.numerals.specs.Decimal.{is_decimal_field}
use Rattle.setup.specs.declared.line.SetupLine.{SetupLine}
use Rattle.setup.specs.declared.line.SetupLine.TheVariants.{Write, Run, Register}

-- a line by its fields
pub data Form : Type 0 where
  write : List ℕ → List ℕ → Form
  run : List ℕ → Form
  register : List ℕ → Form

abbrev pub form : SetupLine → Form
form (Write address word) = write address.digits.now word.digits.now
form (Run count) = run count.digits.now
form (Register number) = register number.digits.now

abbrev pub form_in : Option SetupLine → Option Form
form_in None = None
form_in (Some line) = Some (form line)

abbrev pub line_feed : List ℕ
line_feed = 10 ∷ []

-- how a line of each form is written
abbrev pub line_text : Form → List ℕ
line_text (write address word) = codes "w," ++ (address ++ (codes "," ++ (word ++ line_feed)))
line_text (run count) = codes "g," ++ (count ++ line_feed)
line_text (register number) = codes "r," ++ (number ++ line_feed)

abbrev pub well_formed : Form → Bool
well_formed (write address word) = is_hex_field address && is_hex_field word
well_formed (run count) = is_decimal_field count
well_formed (register number) = is_decimal_field number

-- a line is of a form, with its fields, if these are well formed and it is how the form is written
abbrev pub IsLineOf : Form → List ℕ → Type 0
IsLineOf f line = (well_formed f ≡ true) × (line_text f ≡ line)

-- a line is read as a form exactly if it is of that form; otherwise as of none
pub record Exact (line : List ℕ) (r : Option Form) : Type 0 where
  pub sound : (f : Form) → r ≡ Some f → IsLineOf f line
  pub complete : (f : Form) → IsLineOf f line → r ≡ Some f

-- Which form a line has, found by its letter. That this is the inverse of `line_text` is the law on `SetupLine::read` (`Exact`); a
-- reader who believes that need not read on here.

abbrev pub form_if : Bool → Form → Option Form
form_if holds f = cond holds (Some f) None

-- eight bytes, a comma (44) and eight bytes, the eights in digits
abbrev pub as_write : List ℕ → Option Form
as_write fields = cond (length fields == 17 && slice_index fields 8 == 44) (form_if (is_hex_field (take 8 fields) && is_hex_field (drop 9 fields)) (write (take 8 fields) (drop 9 fields))) None

abbrev pub as_run : List ℕ → Option Form
as_run fields = form_if (is_decimal_field fields) (run fields)

abbrev pub as_register : List ℕ → Option Form
as_register fields = form_if (is_decimal_field fields) (register fields)

-- by the letter: 'w' is 119, 'g' 103, 'r' 114
abbrev pub form_by : ℕ → List ℕ → Option Form
form_by letter fields =
    cond (letter == 119) (as_write fields)
    (cond (letter == 103) (as_run fields)
    (cond (letter == 114) (as_register fields)
    None))

-- any byte, a comma (44), and an LF (10) at the end
abbrev pub is_framed : List ℕ → Bool
is_framed line = nat_le 3 (length line) && (slice_index line 1 == 44 && slice_index line (length line - 1) == 10)

-- what stands between the comma and the LF
abbrev pub fields_of : List ℕ → List ℕ
fields_of line = take (length line - 1 - 2) (drop 2 line)

abbrev pub form_of : List ℕ → Option Form
form_of line = cond (is_framed line) (form_by (slice_index line 0) (fields_of line)) None
