use Rattle.calls.proofs.ReadingBack.{read_back_lem}
use Rattle.calls.proofs.verified.write_verified.Goals as goal

pub returns-clause-value : goal.returns-clause-value
returns-clause-value g c = let a = c.args.access in read_back_lem (g.B.Bus.byte c.args.bus.now) a.at.0 a.width c.args.value (g.B.Bus.byte c.write.new.self) c.read.result c.in_ok-write.ensures.value c.write.ensures.after c.read.ensures.value
