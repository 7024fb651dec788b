use Rattle.std.proofs.Common.{refl, ap, sym, ◌∙◌, subst}
use Rattle.std.specs.Prelude.{IfErr}
use Rattle.session.specs.Listings.{contents}
use Rattle.session.specs.Sessions.{progress, perform}
use Rattle.session.specs.Refused.{full, Refused}
use Rattle.session.proofs.Refusing.{refused}
use Rattle.session.proofs.session.Session.handle.Goals as goal

pub returns-clause-refused : goal.returns-clause-refused
returns-clause-refused g c =
    let p = progress g.B.Bus.byte c.args.self.now in
    let read = c.perform-answer.ensures.value ∙ ap (λ n. perform (record p { lines_read = n }) c.args.line.now) c.saturating_add-self.ensures in
    subst (λ h. IfErr h.answer (λ e. Refused e p (contents c.args.listing.now) c.args.line.now h.after)) (sym read) (refused p (contents c.args.listing.now) c.args.line.now (sym c.if-is_full.ensures))

pub returns-then-is_full-clause-refused : goal.returns-then-is_full-clause-refused
returns-then-is_full-clause-refused g c = record { reason = full (sym c.if-is_full.ensures); leaves = refl }
