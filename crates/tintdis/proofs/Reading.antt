-- Hexadecimal digits, read one by one.
use Rattle.std.proofs.Common.{ℕ, ◌^◌, ◌<◌, ◌≤◌, arith}
use native.Mathlib.Nat.{pow-le-pow_right}

-- a number of fewer than eight digits leaves room for one more in a word
pub fewer_digits : (i : ℕ) → i < 8 → 16 ^ i ≤ 16 ^ 7
fewer_digits i fewer = pow-le-pow_right {n = 16} (omega arith) {i = i} {j = 7} (omega arith)
