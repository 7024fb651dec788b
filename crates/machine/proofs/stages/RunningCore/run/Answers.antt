use Rattle.std.proofs.Common.{ap, ◌∙◌}
use Rattle.machine.specs.Outcomes.{outcome}
use Rattle.machine.proofs.RunLaws.{lawful_run}
use Rattle.machine.proofs.stages.RunningCore.run.Goals as goal

pub returns-clause-counter : goal.returns-clause-counter
returns-clause-counter g c = (lawful_run c.args.count c.args.levels (g.B.Bus.byte c.args.bus.now) c.self.view_is (ap (λ r. outcome r c.steps.new.self (g.B.Bus.byte c.steps.new.bus)) c.report.ensures ∙ c.steps.ensures.value)).counted

pub returns-clause-splits : goal.returns-clause-splits
returns-clause-splits g c = (lawful_run c.args.count c.args.levels (g.B.Bus.byte c.args.bus.now) c.self.view_is (ap (λ r. outcome r c.steps.new.self (g.B.Bus.byte c.steps.new.bus)) c.report.ensures ∙ c.steps.ensures.value)).splits

pub returns-clause-isolated : goal.returns-clause-isolated
returns-clause-isolated g c = (lawful_run c.args.count c.args.levels (g.B.Bus.byte c.args.bus.now) c.self.view_is (ap (λ r. outcome r c.steps.new.self (g.B.Bus.byte c.steps.new.bus)) c.report.ensures ∙ c.steps.ensures.value)).isolated
