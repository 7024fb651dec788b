use Rattle.std.proofs.Common.{arith, ap, ◌∙◌, length, codes}
use Rattle.session.specs.Listings.{contents, with_text, comma_line}
use Rattle.session.proofs.Told.{line_size}
use Rattle.session.proofs.listing.Listing.push_register.Goals as goal

pub push_line-requires : goal.push_line-requires
push_line-requires c = omega (arith, line_size (codes "reg") c.decimal_digits.result.now c.hex_digits.result, ap length c.hex_digits.ensures.value)

pub returns-clause-contents : goal.returns-clause-contents
returns-clause-contents c =
    c.push_line.ensures.contents
    ∙ (λ i. with_text (contents c.args.self.now) (comma_line (codes "reg") (c.decimal_digits.ensures.value i) (c.hex_digits.ensures.value i)))
