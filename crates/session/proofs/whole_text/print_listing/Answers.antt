use Rattle.std.proofs.Common.{ap, subst, ◌∙◌}
use Rattle.std.specs.Prelude.{OnOk}
use Rattle.std.specs.Io.KnownBytes.{Appends}
use Rattle.setup.specs.Text.{lines_of}
use Rattle.session.specs.Sessions.{fresh, lines_told}
use Rattle.session.proofs.Worked.{worked_set_up}
use Rattle.session.proofs.whole_text.print_listing.Goals as goal

pub returns-clause-printed : goal.returns-clause-printed
returns-clause-printed g c =
    subst (λ p. OnOk c.print.result (Appends (g.W.Write.contents c.args.out.now) (g.W.Write.contents c.print.new.out) (lines_told p (lines_of c.args.text.now))))
    (c.new-session.ensures.progress ∙ ap fresh c.new.ensures.cells) c.print.ensures.printed

pub returns-clause-worked : goal.returns-clause-worked
returns-clause-worked g c = worked_set_up
