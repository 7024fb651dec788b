-- A word has no bit from the 33rd on.
use Rattle.std.proofs.Common.{◌≡◌, ℕ, ◌^◌, ◌<◌, ◌≤◌, false, refl}
use Rattle.std.proofs.Math.Nat.{div-eq_of_lt}
use Rattle.pages.proofs.Widths.{fits_more}
use Rattle.csr.specs.Words.{flag}

pub none_above : (word k : ℕ) → word < 2 ^ 32 → 32 ≤ k → flag word k ≡ false
none_above word k fits above = rw (div-eq_of_lt (fits_more word k fits above)) refl
