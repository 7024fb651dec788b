use Rattle.std.proofs.Common.{◌≡◌, rules}
use Rattle.word.specs.Word.{quotient_signed}
use Rattle.word.proofs.Dividing.{divides_signed}
use Rattle.word.proofs.division.quotient_signed.Goals as goal

pub returns-clause-divides : goal.returns-clause-divides
returns-clause-divides c =
    let value : c.cast_unsigned.result ≡ quotient_signed c.args.a c.args.b = search rules in
    rw value (divides_signed _ _ c.ranges.a.fits c.ranges.b.fits)
