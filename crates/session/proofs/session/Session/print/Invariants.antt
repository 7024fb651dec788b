use Rattle.std.proofs.Common.{◌≡◌, length}
use Rattle.std.specs.Io.KnownBytes.{Appends, append_known}
use Rattle.setup.specs.Text.{lines_of}
use Rattle.session.specs.Sessions.{progress, lines_told, after_lines}
use Rattle.session.proofs.Printing.{SomeLeft}
use Rattle.session.proofs.session.Session.print.Given as goal

abbrev pub decreases-loop-line : goal.decreases-loop-line
decreases-loop-line g l = length l.rest

-- what the lines that are left write, behind what is printed, is what all lines write
abbrev pub invariant-loop-line : goal.invariant-loop-line
invariant-loop-line g l =
    (Appends (g.W.Write.contents l.initial.out)
    (append_known (g.W.Write.contents l.out) (lines_told (progress g.B.Bus.byte l.self) (lines_of l.rest)))
    (lines_told (progress g.B.Bus.byte l.initial.self) (lines_of l.text)))
    × (after_lines (progress g.B.Bus.byte l.self) (lines_of l.rest)
    ≡ after_lines (progress g.B.Bus.byte l.initial.self) (lines_of l.text))
    × SomeLeft (progress g.B.Bus.byte l.initial.self) (lines_of l.text) (progress g.B.Bus.byte l.self) (lines_of l.rest)
    × (g.B.Bus.layout l.self.board ≡ g.B.Bus.layout l.initial.self.board)
