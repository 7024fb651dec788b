use Rattle.std.proofs.Common.{◌≡◌, ◌^◌, ◌<◌, drop}
use Rattle.std.specs.Str.Parse.{digits_value, digits_value_after}
use Rattle.tintdis.specs.Digits.{all_hex_digits}
use Rattle.tintdis.proofs.digits.word_of.Given as goal

abbrev pub invariant-loop-byte : goal.invariant-loop-byte
invariant-loop-byte l =
    (digits_value_after 16 l.word (drop l.byte-index l.line) ≡ digits_value 16 l.line)
    × (all_hex_digits (drop l.byte-index l.line) ≡ all_hex_digits l.line)
    × (l.word < 16 ^ l.byte-index)
