use Rattle.std.proofs.Common.{length}
use Rattle.boardruns.proofs.run.answer_lines.Given as goal

abbrev pub decreases-loop-line : goal.decreases-loop-line
decreases-loop-line g l = length l.rest
