use Rattle.std.proofs.Common.{rules}
use Rattle.selftest.proofs.Examples.{summed, worked_examples}
use Rattle.selftest.proofs.Reach.{reach}
use Rattle.selftest.proofs.addition.add_up.Goals as goal

pub returns-clause-sum : goal.returns-clause-sum
returns-clause-sum g c holds =
    summed (g.B.Bus.byte c.args.bus.now) _ c.run.new.self (g.B.Bus.byte c.run.new.bus) c.run.result _ _ _ _ holds c.reset-core.ensures c.run.ensures.value
    (search rules) (search rules) (search rules) (search rules)

pub returns-clause-examples : goal.returns-clause-examples
returns-clause-examples g c = worked_examples

pub returns-clause-reach : goal.returns-clause-reach
returns-clause-reach g c = reach
