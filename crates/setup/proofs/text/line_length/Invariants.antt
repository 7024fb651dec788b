use Rattle.std.proofs.Common.{◌≡◌, ◌+◌, drop}
use Rattle.setup.specs.Text.{line_length}
use Rattle.setup.proofs.text.line_length.Given as goal

abbrev pub invariant-loop-at : goal.invariant-loop-at
invariant-loop-at l = l.at + line_length (drop l.at l.text) ≡ line_length l.text
