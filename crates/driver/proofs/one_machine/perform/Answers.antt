use Rattle.std.proofs.Common.{subst}
use Rattle.driver.specs.Calls.{CallFetchesNothing}
use Rattle.driver.proofs.one_machine.perform.Goals as goal

pub returns-in-Step-clause-untouched : goal.returns-in-Step-clause-untouched
returns-in-Step-clause-untouched g c none =
    c.step.ensures.untouched (subst (λ call. CallFetchesNothing call c.args.core.now (g.B.Bus.byte c.args.bus.now)) c.in-Step.is none)

pub returns-in-Run-clause-untouched : goal.returns-in-Run-clause-untouched
returns-in-Run-clause-untouched g c none =
    c.run.ensures.untouched (subst (λ call. CallFetchesNothing call c.args.core.now (g.B.Bus.byte c.args.bus.now)) c.in-Run.is none)
