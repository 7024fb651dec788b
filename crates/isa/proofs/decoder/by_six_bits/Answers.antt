-- The arm _: other six bits are no row of highest_rows, and of the rows 0x00, 0x01 and 0x0a the conditions say that their group has nothing.
use Rattle.std.proofs.Common.{◌≡◌, ◌/◌, ◌^◌, None, refl, sym, arith}
use Rattle.isa.specs.Decoding.{highest_rows}
use Rattle.isa.proofs.Sound.{AllRows, choose_all}
use Rattle.isa.proofs.decoder.by_six_bits.Goals as goal

pub returns-in_default : goal.returns-in_default
unfolding AllRows
returns-in_default c = sym (choose_all (λ r. r ≡ None) (c.args.word / 2 ^ 26) (highest_rows c.args.word) refl (grind (arith, c.requires)))
