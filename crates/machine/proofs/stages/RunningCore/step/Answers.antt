use Rattle.std.proofs.Common.{refl}
use Rattle.machine.proofs.StepLaws.{lawful_step}
use Rattle.machine.proofs.stages.RunningCore.step.Goals as goal

pub returns-clause-refused : goal.returns-clause-refused
returns-clause-refused g c = (lawful_step c.args.levels (g.B.Bus.sound c.args.bus.now) c.self.view_is (c.steps.ensures.single refl).value).refused

pub returns-clause-exception : goal.returns-clause-exception
returns-clause-exception g c = (lawful_step c.args.levels (g.B.Bus.sound c.args.bus.now) c.self.view_is (c.steps.ensures.single refl).value).exception

pub returns-clause-interrupt : goal.returns-clause-interrupt
returns-clause-interrupt g c = (lawful_step c.args.levels (g.B.Bus.sound c.args.bus.now) c.self.view_is (c.steps.ensures.single refl).value).interrupt

pub returns-clause-isolated : goal.returns-clause-isolated
returns-clause-isolated g c = (lawful_step c.args.levels (g.B.Bus.sound c.args.bus.now) c.self.view_is (c.steps.ensures.single refl).value).isolated

pub returns-clause-confined : goal.returns-clause-confined
returns-clause-confined g c = (lawful_step c.args.levels (g.B.Bus.sound c.args.bus.now) c.self.view_is (c.steps.ensures.single refl).value).confined

pub returns-clause-untouched : goal.returns-clause-untouched
returns-clause-untouched g c = rw (← c.self.view_is) (c.steps.ensures.single refl).untouched
