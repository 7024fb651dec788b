use Rattle.std.proofs.lemmas.Grind.{common_steps}
use Rattle.std.proofs.Common.{◌≡◌, sym, subst, true, [], ◌∷◌, arith}
use Rattle.numerals.specs.Hexadecimal.{is_hex_field, hex_value, hex_text}
use Rattle.numerals.proofs.Hexadecimals.{read_back}
use Rattle.numerals.proofs.hexadecimal.hex_digits.Goals as goal

pub returns-clause-read_back : goal.returns-clause-read_back
returns-clause-read_back c =
    let value : (c.hex_digit.result ∷ c.hex_digit-2.result ∷ c.hex_digit-3.result ∷ c.hex_digit-4.result ∷ c.hex_digit-5.result ∷ c.hex_digit-6.result ∷ c.hex_digit-7.result ∷ c.hex_digit-8.result ∷ []) ≡ hex_text c.args.word = grind (arith, common_steps) in
    subst (λ digits. (is_hex_field digits ≡ true) × (hex_value digits ≡ c.args.word)) (sym value) (read_back c.args.word (omega arith))
