-- With every bit of the mask 1 the word is what is written.
use Rattle.std.proofs.Common.{◌≡◌, ℕ, ◌-◌, ◌^◌, ◌<◌, bit_and}
use Rattle.std.specs.Int.Bits.{and_zero_r, or_zero_l}
use Rattle.std.proofs.Math.Nat.{mod-eq_of_lt}
use Rattle.std.proofs.lemmas.Nat.{and_mask}
use Rattle.control.specs.Instructions.{exchanged}

pub whole_exchanged : (old word : ℕ) → word < 2 ^ 32 → exchanged old word (2 ^ 32 - 1) ≡ word
whole_exchanged old word fits =
    rw (and_zero_r, or_zero_l (bit_and word (2 ^ 32 - 1)), and_mask word 32) (mod-eq_of_lt fits)
