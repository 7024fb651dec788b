use Rattle.std.proofs.Common.{arith, ap, ◌∙◌, length, codes, decimal}
use Rattle.numerals.specs.Hexadecimal.{hex_text}
use Rattle.session.specs.Listings.{contents, with_text, comma_line}
use Rattle.session.proofs.Told.{line_size}
use Rattle.session.proofs.listing.Listing.push_run.Goals as goal

pub push_line-requires : goal.push_line-requires
push_line-requires c = omega (arith, line_size (codes "run") c.decimal_digits.result.now c.hex_digits.result, ap length c.hex_digits.ensures.value)

pub returns-clause-contents : goal.returns-clause-contents
returns-clause-contents c =
    c.push_line.ensures.contents
    ∙ (λ i. with_text (contents c.args.self.now) (comma_line (codes "run") (c.decimal_digits.ensures.value i) (c.hex_digits.ensures.value i)))

pub returns-clause-size : goal.returns-clause-size
returns-clause-size c =
    omega (arith, line_size (codes "run") (decimal c.args.steps) (hex_text c.args.pc), ap length c.decimal_digits.ensures.value)
