use Rattle.std.proofs.lemmas.Grind.{common_steps}
use Rattle.std.proofs.Common.{◌≡◌, arith, ap, ◌∙◌, decimal}
use Rattle.numerals.specs.Decimal.{decimal_value}
use Rattle.numerals.proofs.Decimals.{written}
use Rattle.numerals.proofs.decimal.DecimalField.value.Goals as goal

pub returns-clause-written : goal.returns-clause-written
returns-clause-written c =
    let value : c.loop-byte.number ≡ decimal_value c.args.self.digits.now = grind (arith, common_steps) in
    ap decimal value ∙ written c.args.self.digits.now c.args.self.form (omega (arith, value))
