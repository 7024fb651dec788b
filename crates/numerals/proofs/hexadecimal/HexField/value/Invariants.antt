use Rattle.std.proofs.Common.{◌≡◌, ◌^◌, ◌<◌, true, drop}
use Rattle.std.specs.Str.Parse.{digits_value_after}
use Rattle.numerals.specs.Hexadecimal.{all_hex_digits, hex_value}
use Rattle.numerals.proofs.hexadecimal.HexField.value.Given as goal

abbrev pub invariant-loop-byte : goal.invariant-loop-byte
invariant-loop-byte l =
    (digits_value_after 16 l.word (drop l.byte-index l.self.digits.now) ≡ hex_value l.self.digits.now)
    × (all_hex_digits (drop l.byte-index l.self.digits.now) ≡ true)
    × (l.word < 16 ^ l.byte-index)
