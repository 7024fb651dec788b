use Rattle.std.proofs.Common.{◌≡◌, true, sym, subst, arith, ap, ◌∙◌}
use Rattle.std.specs.Str.{all_ascii_digits}
use Rattle.numerals.specs.Decimal.{decimal_value, without_leading_zeros}
use Rattle.numerals.proofs.Decimals.{read_back, decimal_digits_form}
use Rattle.numerals.proofs.decimal.decimal_digits.Goals as goal

pub returns-clause-read_back : goal.returns-clause-read_back
returns-clause-read_back c = ap decimal_value (c.as_bytes.ensures.value ∙ c.format.ensures.text) ∙ read_back c.args.number (omega arith)

pub returns-clause-form : goal.returns-clause-form
returns-clause-form c =
    subst (λ digits. (all_ascii_digits digits ≡ true) × (without_leading_zeros digits ≡ digits)) (sym (c.as_bytes.ensures.value ∙ c.format.ensures.text)) (decimal_digits_form c.args.number (omega arith))
