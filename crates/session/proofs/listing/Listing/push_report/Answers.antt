use Rattle.std.proofs.Common.{arith, ap, ◌∙◌, length, decimal}
use Rattle.session.specs.Listings.{contents, with_text, run_line, refusal_line}
use Rattle.session.proofs.Told.{joined, room, cut_size, report_cut}
use Rattle.session.proofs.listing.Listing.push_report.Goals as goal

pub push_refusal-requires : goal.push_refusal-requires
push_refusal-requires c =
    grind (
      arith,
      ap (λ n. length (decimal n)) c.number.ensures,
      cut_size c.in-Some.refusal,
      c.push_run.ensures.size,
      room (contents c.args.self.now) (contents c.push_run.new.self) (run_line c.args.report.steps c.args.pc.0) c.push_run.ensures.contents,
    )

pub returns-in-Some-clause-contents : goal.returns-in-Some-clause-contents
returns-in-Some-clause-contents c =
    joined (contents c.args.self.now) (contents c.push_run.new.self) (contents c.push_refusal.new.self) (run_line c.args.report.steps c.args.pc.0) (refusal_line c.args.line c.number.result)
    c.push_run.ensures.contents c.push_refusal.ensures.contents
    ∙ ap (with_text (contents c.args.self.now)) (report_cut c.args.line c.args.report c.args.pc c.in-Some.refusal c.number.result c.in-Some.is c.number.ensures)
