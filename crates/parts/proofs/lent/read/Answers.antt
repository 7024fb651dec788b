use Rattle.std.proofs.Common.{arith}
use Rattle.std.proofs.lemmas.Bool.Decides.{nat_tests}
use Rattle.parts.proofs.lent.read.Goals as goal

pub returns : goal.returns
returns c = grind (arith, nat_tests, c.load.ensures, c.in_ok-width.ensures, c.in_ok-offset.ensures)
