use Rattle.std.proofs.Common.{subst, sym}
use Rattle.setup.specs.Lines.{Exact}
use Rattle.setup.proofs.Forms.{exact}
use Rattle.setup.proofs.line.SetupLine.read.Goals as goal

pub returns-clause-exact : goal.returns-clause-exact
returns-clause-exact c = subst (Exact c.args.line.now) (sym c.read_form.ensures) (exact c.args.line.now)
