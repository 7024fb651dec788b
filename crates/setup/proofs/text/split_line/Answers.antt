use Rattle.std.proofs.Common.{arith, ap, sym, subst, ◌∙◌, ℕ, List, ◌∷◌, take, drop}
use Rattle.setup.specs.Text.{lines_of, FirstLine}
use Rattle.setup.proofs.FirstLine.{first_line, line_length_within, is_first_line}
use Rattle.setup.proofs.text.split_line.Goals as goal

pub split_at-requires : goal.split_at-requires
split_at-requires c = omega (arith, c.line_length.ensures, line_length_within c.args.text.now)

pub returns-clause-line : goal.returns-clause-line
returns-clause-line c =
    let front = sym c.split_at.ensures.front in
    let back = sym c.split_at.ensures.back in
    first_line c.args.text.now (grind (arith, c.if-is_empty.ensures))
    ∙ ap (λ n. take n c.args.text.now ∷ lines_of (drop n c.args.text.now)) (sym c.line_length.ensures)
    ∙ (λ i. front i ∷ lines_of (back i))

pub returns-clause-first : goal.returns-clause-first
returns-clause-first c =
    let text : List ℕ = c.args.text.now in
    subst (λ line. FirstLine text line c.split_at.result.1.now) (sym c.split_at.ensures.front)
    (subst (FirstLine text (take c.line_length.result text)) (sym c.split_at.ensures.back)
    (subst (λ n. FirstLine text (take n text) (drop n text)) (sym c.line_length.ensures) (is_first_line text (grind (arith, c.if-is_empty.ensures)))))
