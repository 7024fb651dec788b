use Rattle.std.proofs.Common.{rules}
use Rattle.calls.specs.declared.call.Answer.TheVariants as answer
use Rattle.calls.proofs.Making.{by_rule}
use Rattle.calls.proofs.any_bus.perform.Goals as goal

pub returns-in-Read-clause-rule : goal.returns-in-Read-clause-rule
returns-in-Read-clause-rule g c = by_rule (g.B.Bus.byte c.args.bus.now) (g.B.Bus.sound c.args.bus.now) c.args.call (answer.Read c.read.result) (g.B.Bus.byte c.read.new.self) (search rules) (search rules)

pub returns-in-Write-clause-rule : goal.returns-in-Write-clause-rule
returns-in-Write-clause-rule g c = by_rule (g.B.Bus.byte c.args.bus.now) (g.B.Bus.sound c.args.bus.now) c.args.call (answer.Write c.write.result) (g.B.Bus.byte c.write.new.self) (search rules) (search rules)
