-- The first program and what it leaves.
use Rattle.std.specs.Prelude.{◌≡◌, ℕ, Ok}
use Rattle.bus.specs.Memory.{Memory, read_of}
use Rattle.actions.specs.User.{virtual}
use Rattle.selftest.specs.declared.addition.Sum.{Sum}

abbrev pub HoldsWord : Memory → ℕ → ℕ → Type 0
HoldsWord m at word = read_of m at 4 ≡ Ok word

-- addi.w r4, r0, -1; add.w r5, r4, r4; b 0
pub record HoldsAddition (m : Memory) : Type 0 where
  pub first : HoldsWord m 0x1c000000 0x02bffc04
  pub second : HoldsWord m 0x1c000004 0x00101085
  pub third : HoldsWord m 0x1c000008 0x50000000

abbrev pub the_sum : Sum
the_sum = record { r4 = 0xffffffff; r5 = 0xfffffffe; pc = virtual 0x1c000008; counter = 3 }
