-- What a quotient and a remainder have to be, said of them and not computed.
use Rattle.std.specs.Prelude.{◌≡◌, ℕ, ◌+◌, ◌*◌, ◌<◌, ℤ, pos, ◌+ℤ◌, ◌*ℤ◌, ◌<ℤ◌, ◌≢◌, unsigned_abs}
use Rattle.word.specs.Word.{signed}

-- The remainder has the dividend's sign, and its magnitude is below the divisor's.
pub record Divides (a b q r : ℤ) : Type 0 where
  pub whole : q *ℤ b +ℤ r ≡ a
  pub smaller : unsigned_abs r < unsigned_abs b
  pub negative : r <ℤ pos 0 → a <ℤ pos 0
  pub positive : pos 0 <ℤ r → pos 0 <ℤ a

-- Of words as signed numbers. A divisor of 0, and the one quotient that is no signed word, are ours to define.
abbrev pub DividesSigned : ℕ → ℕ → ℕ → ℕ → Type 0
DividesSigned a b q r = (b ≢ 0) → (a ≡ 0x80000000 → b ≢ 0xffffffff) → Divides (signed a) (signed b) (signed q) (signed r)

-- Of words as unsigned numbers.
abbrev pub DividesUnsigned : ℕ → ℕ → ℕ → ℕ → Type 0
DividesUnsigned a b q r = (b ≢ 0) → (q * b + r ≡ a) × (r < b)
