use Rattle.std.proofs.Common.{arith}
use Rattle.std.proofs.lemmas.Bool.Decides.{nat_tests}
use Rattle.csr.proofs.Sharing.{shared_groups}
use Rattle.csr.proofs.interrupts.Interrupts.is_due.Goals as goal

pub returns-then-hwi-ne0 : goal.returns-then-hwi-ne0
returns-then-hwi-ne0 c =
    grind (arith, nat_tests, shared_groups c.args.self.now (omega arith) (omega arith) (omega arith) (omega arith))

pub returns-then-self : goal.returns-then-self
returns-then-self c =
    grind (arith, nat_tests, shared_groups c.args.self.now (omega arith) (omega arith) (omega arith) (omega arith))

pub returns-else-self : goal.returns-else-self
returns-else-self c =
    grind (arith, nat_tests, shared_groups c.args.self.now (omega arith) (omega arith) (omega arith) (omega arith))
