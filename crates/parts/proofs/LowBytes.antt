-- Four bytes that are written one after another are those of the word.
use Rattle.std.proofs.Common.{◌≡◌, ℕ, ◌+◌, ◌-◌, ◌≤◌, List, length, get_or, set, cond, arith, length-set, get_or-set_other, get_or-set_same}
use Rattle.std.proofs.lemmas.Bool.Decides.{nat_tests}
use Rattle.bus.specs.Memory.{within, byte_of}

pub word_stored : (xs : List ℕ) (at v k a b c d : ℕ) → at + 4 ≤ length xs → a ≡ byte_of v 0 → b ≡ byte_of v 1 → c ≡ byte_of v 2 → d ≡ byte_of v 3
    → get_or (set (set (set (set xs at a) (at + 1) b) (at + 2) c) (at + 3) d) k 0 ≡ cond (within at 4 k) (byte_of v (k - at)) (get_or xs k 0)
word_stored xs at v k a b c d room ea eb ec ed = grind (arith, nat_tests, get_or-set_same, get_or-set_other, length-set)
