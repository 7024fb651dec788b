use Rattle.std.proofs.Common.{length}
use Rattle.benchruns.proofs.main.Given as goal

abbrev pub decreases-loop-line : goal.decreases-loop-line
decreases-loop-line l = length l.rest
