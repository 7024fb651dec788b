use Rattle.std.proofs.Common.{◌≡◌, subst}
use Rattle.std.specs.Prelude.{IfSome}
use Rattle.session.specs.WholeText.{text_read}
use Rattle.session.proofs.Printing.{limited}
use Rattle.session.proofs.whole_text.read_text.Goals as goal

pub returns : goal.returns
returns g c =
    subst (λ reader. IfSome (g.R.Read.remaining reader) (λ bytes. c.read_to_end.new.buf.items ≡ text_read bytes)) c.take.ensures.inner
    (limited (g.R.Read.remaining c.take.result.inner) c.take.result.limit c.new-text.result.items c.read_to_end.new.buf.items c.take.ensures.limit c.new-text.ensures.items c.in_ok-read_to_end.ensures.bytes)
