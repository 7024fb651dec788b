-- Extension of a field of any number of bits.
use Rattle.std.proofs.Common.{◌≡◌, ◌≢◌, inl, inr, ℕ, zero, suc, ◌+◌, ◌-◌, ◌*◌, ◌/◌, ◌%◌, ◌^◌, ◌<◌, ◌≤◌, cond, pos, negsuc, ◌-ℤ◌, sym, ap, ◌∙◌, mod-lt, arith}
use Rattle.std.specs.Prelude.{nat_lt}
use Rattle.std.specs.Int.Signed.{shr_z}
use Rattle.std.proofs.lemmas.Nat.{div-mul-add, pow_pos, pow-add, mod-pow-add, shl-shr}
use Rattle.std.proofs.lemmas.Int.{ints}
use Rattle.std.proofs.lemmas.Bool.Decides.{nat_tests}
use Rattle.std.proofs.lemmas.Bool.{cases_lt}
use Rattle.std.proofs.Math.Nat.{mod-eq_of_lt, mul-div_cancel, pow-suc, mul-mod_left}
use Rattle.std.proofs.Math.Pow.{pow_mono}
use Rattle.word.specs.Word.{signed, low_word, sign_extend, zero_extend, sign_extend_times4, shift_left, shift_right_signed}

-- a field as wide as a word is the word
pub zero_extend_wide : (n v : ℕ) → v < 2 ^ 32 → 32 ≤ n → zero_extend n v ≡ v
zero_extend_wide n v fits wide =
    let power : 2 ^ 32 ≤ 2 ^ n = pow_mono wide in
    mod-eq_of_lt (omega arith)

half_power : (n : ℕ) → n ≢ 0 → 2 ^ n ≡ 2 ^ (n - 1) * 2
half_power n some = ap (λ (x : ℕ). 2 ^ x) (omega arith) ∙ pow-suc 2 (n - 1)

negative_difference : (f p : ℕ) → f < p → pos f -ℤ pos p ≡ negsuc (p - suc f)
negative_difference f p below = omega (arith, ints)

moved_to_top : (v n s w : ℕ) → n + s ≡ w → v * 2 ^ s % 2 ^ w ≡ v % 2 ^ n * 2 ^ s
moved_to_top v n s w bits = rw (← bits, mod-pow-add, shl-shr, mul-mod_left) (omega arith)

-- f is a field at the top of a word, h the weight of the field's highest bit, and s the power of two that moved it there
moved_back : (f h s : ℕ) → f < h * 2 → h * s ≡ 2 ^ 31 → shr_z (signed (f * s)) s ≡ cond (nat_lt f h) (pos f) (pos f -ℤ pos (h * 2))
moved_back f h s in_field top =
    let some : 0 < s = grind arith in
    let rest : f + 1 + (h * 2 - suc f) ≡ h * 2 = omega arith in
    let above : 2 ^ 32 - suc (f * s) ≡ (h * 2 - suc f) * s + (s - 1) = omega (arith, ap (λ (x : ℕ). x * s) rest) in
    let rounded : (2 ^ 32 - suc (f * s)) / s ≡ h * 2 - suc f = ap (λ (x : ℕ). x / s) above ∙ div-mul-add (h * 2 - suc f) s (s - 1) (omega arith) in
    grind (arith, nat_tests, negative_difference f (h * 2) in_field, mul-div_cancel f some, rounded)

sign_extend_narrow : (n v s : ℕ) → n ≢ 0 → n + s ≡ 32 → shift_right_signed (shift_left v s) s ≡ sign_extend n v
sign_extend_narrow n v s some spare =
    let h = 2 ^ (n - 1) in
    let same : s % 32 ≡ s = omega arith in
    let bits : n - 1 + s ≡ 31 = omega arith in
    let top : h * 2 ^ s ≡ 2 ^ 31 = sym (pow-add 2 (n - 1) s) ∙ ap (λ (x : ℕ). 2 ^ x) bits in
    let in_field : v % (h * 2) < h * 2 = mod-lt v (omega (arith, pow_pos (n - 1))) in
    rw (same, moved_to_top v n s 32 spare, half_power n some) (ap low_word (moved_back (v % (h * 2)) h (2 ^ s) in_field top))

sign_extend_wide : (n v : ℕ) → v < 2 ^ 32 → 32 < n → shift_right_signed (shift_left v 0) 0 ≡ sign_extend n v
sign_extend_wide n v fits more =
    let power : 2 ^ 32 ≤ 2 ^ (n - 1) = pow_mono {i = 32} (omega arith) in
    let all : v % 2 ^ n ≡ v = zero_extend_wide n v fits (omega arith) in
    grind (arith, nat_tests)

pub sign_extend_by_shifts : (n v s : ℕ) → n ≢ 0 → v < 2 ^ 32 → s ≡ 32 - n → shift_right_signed (shift_left v s) s ≡ sign_extend n v
sign_extend_by_shifts n v s some fits spare = elim (cases_lt 32 n) [
  | inl more ↦ let none : s ≡ 0 = omega arith in ap (λ k. shift_right_signed (shift_left v k) k) none ∙ sign_extend_wide n v fits more
  | inr least ↦ sign_extend_narrow n v s some (omega arith)
]

-- the two zeros below a field are a shift to the left by 2
pub sign_extend_scaled : (n v : ℕ) → sign_extend n v * 4 % 2 ^ 32 ≡ sign_extend_times4 n v
sign_extend_scaled zero v = grind (arith, nat_tests)
sign_extend_scaled (suc n) v =
    let power : 2 ^ (suc n + 2) ≡ 2 ^ suc n * 4 = pow-add 2 (suc n) 2 in
    let bits : suc n + 2 - 1 ≡ suc n - 1 + 2 = omega arith in
    let highest : 2 ^ (suc n + 2 - 1) ≡ 2 ^ (suc n - 1) * 4 = ap (λ (x : ℕ). 2 ^ x) bits ∙ pow-add 2 (suc n - 1) 2 in
    let kept : v % 2 ^ suc n * 4 % 2 ^ (suc n + 2) ≡ v % 2 ^ suc n * 4 = mod-eq_of_lt (omega (arith, mod-lt v (pow_pos (suc n)))) in
    grind (arith, nat_tests, negative_difference, half_power (suc n) (omega arith))
