use Rattle.std.proofs.Common.{◌≡◌, drop}
use Rattle.numerals.specs.Hexadecimal.{all_hex_digits}
use Rattle.numerals.proofs.hexadecimal.are_hex_digits.Given as goal

abbrev pub invariant-loop-byte : goal.invariant-loop-byte
invariant-loop-byte l = all_hex_digits (drop l.byte-index l.text) ≡ all_hex_digits l.text
