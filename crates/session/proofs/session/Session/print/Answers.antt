use Rattle.std.proofs.Common.{◌≡◌, refl, ap, sym, subst, ◌∙◌, ℕ, List, ◌++◌, replicate}
use Rattle.std.specs.Prelude.{OnErr}
use Rattle.std.specs.Io.KnownBytes.{Appends, append_known}
use Rattle.setup.specs.Text.{lines_of}
use Rattle.session.specs.Listings.{contents, told}
use Rattle.session.specs.Sessions.{Progress, handled, progress, read_line, line_told, lines_told, after_lines, LeftAt}
use Rattle.session.proofs.Printing.{begun, read_with_room, printed, SomeLeft, one_more, led_on, stopped}
use Rattle.session.proofs.session.Session.print.Goals as goal

pub loop-line-preserved : goal.loop-line-preserved
loop-line-preserved g c =
    let start : Progress = progress g.B.Bus.byte c.args.self.now in
    let all : List (List ℕ) = lines_of c.args.text.now in
    let p : Progress = progress g.B.Bus.byte c.loop-line.self in
    let more : List (List ℕ) = lines_of c.in-Some.behind.now in
    let out = g.W.Write.contents c.args.out.now in
    let empty = begun c.new-listing.result (replicate 40 0) c.new-listing.ensures.used c.new-listing.ensures.memory refl in
    let read = read_with_room p (contents c.new-listing.result) c.in-Some.line.now (handled c.handle.result (progress g.B.Bus.byte c.handle.new.self)) c.handle.ensures.value empty.0 in
    let text : c.text.result.now ≡ line_told (read_line p c.in-Some.line.now) =
    c.text.ensures ∙ ap (λ l. l.written) c.handle.ensures.listing ∙ ap (λ before. before ++ told c.handle.new.self.lines_read c.handle.result) empty.1 ∙ ap line_told read in (
      subst (λ h. Appends out (append_known (g.W.Write.contents c.write_all.new.self) (lines_told h.after more)) (lines_told start all)) (sym read)
          (printed out (g.W.Write.contents c.loop-line.out) (g.W.Write.contents c.write_all.new.self) (line_told (read_line p c.in-Some.line.now)) (lines_told (read_line p c.in-Some.line.now).after more) (lines_told start all)
          (subst (λ lines. Appends out (append_known (g.W.Write.contents c.loop-line.out) (lines_told p lines)) (lines_told start all)) c.in-Some.ensures.line c.loop-line.invariant.0)
          (subst (Appends (g.W.Write.contents c.loop-line.out) (g.W.Write.contents c.write_all.new.self)) text c.in_ok-write_all.ensures.bytes)),
      led_on p (after_lines start all) (lines_of c.loop-line.rest.now) c.in-Some.line.now more (handled c.handle.result (progress g.B.Bus.byte c.handle.new.self)) read c.in-Some.ensures.line c.loop-line.invariant.1,
      subst (λ h. SomeLeft start all h.after more) (sym read) (one_more start p all c.in-Some.line.now more (subst (SomeLeft start all p) c.in-Some.ensures.line c.loop-line.invariant.2)),
      c.handle.ensures.kept ∙ c.loop-line.invariant.3,
    )

pub returns-in_err-write_all-clause-stopped : goal.returns-in_err-write_all-clause-stopped
returns-in_err-write_all-clause-stopped g c =
    let start : Progress = progress g.B.Bus.byte c.args.self.now in
    let all : List (List ℕ) = lines_of c.args.text.now in
    let p : Progress = progress g.B.Bus.byte c.loop-line.self in
    let more : List (List ℕ) = lines_of c.in-Some.behind.now in
    let empty = begun c.new-listing.result (replicate 40 0) c.new-listing.ensures.used c.new-listing.ensures.memory refl in
    let read = read_with_room p (contents c.new-listing.result) c.in-Some.line.now (handled c.handle.result (progress g.B.Bus.byte c.handle.new.self)) c.handle.ensures.value empty.0 in
    subst (λ h. OnErr c.from_residual.result (LeftAt start all h.after)) (sym read)
    (stopped c.from_residual.result start p all c.in-Some.line.now more (subst (SomeLeft start all p) c.in-Some.ensures.line c.loop-line.invariant.2))
