-- A field that is widened to a word, read as signed, is the integer that the field is in two's complement.
use Rattle.std.proofs.Common.{◌≡◌, ℕ, zero, suc, ◌+◌, ◌*◌, ◌%◌, ◌^◌, ◌<◌, ◌≤◌, mod-lt, arith, w32}
use Rattle.std.specs.Int.RustNames.{FitsSigned}
use Rattle.std.proofs.lemmas.Int.{ints}
use Rattle.std.proofs.lemmas.Nat.{pow_pos}
use Rattle.std.proofs.lemmas.Bool.Decides.{nat_tests}
use Rattle.std.proofs.Math.Nat.{pow-suc}
use Rattle.std.proofs.Math.Pow.{pow_mono}
use Rattle.word.proofs.Dividing.{signed_of_low_word}
use Rattle.word.specs.Word.{signed, signed_bits, sign_extend, signed_bits_times4, sign_extend_times4}

signed_bits_fit : (k v : ℕ) → k ≤ 32 → FitsSigned w32 (signed_bits k v)
signed_bits_fit zero v least = grind (arith, ints, nat_tests)
signed_bits_fit (suc k) v least =
    let double : 2 ^ suc k ≡ 2 ^ k * 2 = pow-suc 2 k in
    let half : 2 ^ k ≤ 2 ^ 31 = pow_mono {i = k} {j = 31} (omega arith) in
    let below : v % 2 ^ suc k < 2 ^ suc k = mod-lt v (pow_pos (suc k)) in
    grind (arith, ints, nat_tests)

pub signed_field_is : (k v : ℕ) → k ≤ 32 → signed (sign_extend k v) ≡ signed_bits k v
signed_field_is k v least = signed_of_low_word (signed_bits k v) (signed_bits_fit k v least)

pub words_field_is : (k v : ℕ) → k ≤ 30 → signed (sign_extend_times4 k v) ≡ signed_bits_times4 k v
words_field_is k v least = signed_of_low_word (signed_bits_times4 k v) (signed_bits_fit (k + 2) (v % 2 ^ k * 4) (omega arith))
