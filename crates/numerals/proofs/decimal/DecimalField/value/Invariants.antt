use Rattle.std.proofs.Common.{◌≡◌, ◌^◌, ◌<◌, true, drop}
use Rattle.std.specs.Str.{all_ascii_digits}
use Rattle.std.specs.Str.Parse.{digits_value_after}
use Rattle.numerals.specs.Decimal.{decimal_value}
use Rattle.numerals.proofs.decimal.DecimalField.value.Given as goal

abbrev pub invariant-loop-byte : goal.invariant-loop-byte
invariant-loop-byte l =
    (digits_value_after 10 l.number (drop l.byte-index l.self.digits.now) ≡ decimal_value l.self.digits.now)
    × (all_ascii_digits (drop l.byte-index l.self.digits.now) ≡ true)
    × (l.number < 10 ^ l.byte-index)
