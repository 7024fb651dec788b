use Rattle.std.proofs.Common.{arith, ap, length, decimal}
use Rattle.session.proofs.Told.{refusal_size}
use Rattle.session.proofs.listing.Listing.tell.Goals as goal

pub push_refusal-requires : goal.push_refusal-requires
push_refusal-requires c = grind (arith, ap (λ n. length (decimal n)) c.number.ensures, refusal_size c.in-Err.refusal)
