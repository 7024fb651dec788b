use Rattle.std.proofs.lemmas.Grind.{common_steps}
use Rattle.std.proofs.Common.{◌≡◌, arith, ap, ◌∙◌}
use Rattle.numerals.specs.Hexadecimal.{hex_value, hex_text}
use Rattle.numerals.proofs.Hexadecimals.{written}
use Rattle.numerals.proofs.hexadecimal.HexField.value.Goals as goal

pub returns-clause-written : goal.returns-clause-written
returns-clause-written c =
    let value : c.loop-byte.word ≡ hex_value c.args.self.digits.now = grind (arith, common_steps) in
    ap hex_text value ∙ written c.args.self.digits.now c.args.self.form
