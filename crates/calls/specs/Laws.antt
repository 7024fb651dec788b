-- What holds of every call, and of every list of calls.
use Rattle.std.specs.Prelude.{◌≡◌, ℕ, ◌+◌, ◌<◌, Bool, true, false, ◌||◌, List, [], ◌∷◌, length, Ok, Err, slice_index}
use Rattle.bus.specs.declared.refusal.BoardRefusal.{BoardRefusal}
use Rattle.bus.specs.Board.{range_check}
use Rattle.bus.specs.Memory.{Memory, held, is_absent, is_fixed, within}
use Rattle.bus.specs.Rules.{ReadRule, WriteRule}
use Rattle.calls.specs.declared.call.Call.{Call}
use Rattle.calls.specs.declared.call.Call.TheVariants.{Read, Write}
use Rattle.calls.specs.declared.call.Answer.{Answer}
use Rattle.calls.specs.declared.call.Answer.TheVariants as answer

-- a call on m answers r and leaves n by the rules of the bus
abbrev pub ByRule : Memory → Call → Answer → Memory → Type 0
ByRule m (Read a) (answer.Read r) n = ReadRule m a.at.0 a.width r × (n ≡ m)
ByRule m (Read a) (answer.Write r) n = ⊥
ByRule m (Write a v) (answer.Read r) n = ⊥
ByRule m (Write a v) (answer.Write r) n = WriteRule m a.at.0 a.width v r n

-- whether a write of the list names x
abbrev pub writes : List Call → ℕ → Bool
writes [] x = false
writes (Read a ∷ cs) x = writes cs x
writes (Write a v ∷ cs) x = within a.at.0 a.width x || writes cs x

-- from m to n no byte changes that is not named, no fixed byte changes, and none becomes absent, fixed or open that was not so
pub record Lasting (m : Memory) (named : ℕ → Bool) (n : Memory) : Type 0 where
  pub unnamed : (x : ℕ) → named x ≡ false → n x ≡ m x
  pub kept : (x : ℕ) → is_fixed (m x) ≡ true → n x ≡ m x
  pub absence : (x : ℕ) → is_absent (n x) ≡ is_absent (m x)
  pub fixity : (x : ℕ) → is_fixed (n x) ≡ is_fixed (m x)

-- memory that was lent to a bank at b as xs and comes back as ys, where m is what the bank meant at its end: byte by byte what
-- the bank showed, and as it was where the bank showed nothing
pub record GivenBack (b : ℕ) (xs : List ℕ) (m : Memory) (ys : List ℕ) : Type 0 where
  pub as_long : length ys ≡ length xs
  pub shown : range_check b (length xs) ≡ Ok tt → (k : ℕ) → k < length xs → slice_index ys k ≡ held (m (b + k))
  pub refused : (e : BoardRefusal) → range_check b (length xs) ≡ Err e → ys ≡ xs
