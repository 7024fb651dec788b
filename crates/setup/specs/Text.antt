-- The lines of a text.
use Rattle.std.specs.Prelude.{◌≡◌, ◌≢◌, ℕ, suc, ◌-◌, ◌<◌, cond, ◌⊎◌, List, [], ◌∷◌, ◌++◌, length, slice_index, ◌==◌}

-- b before the first line
abbrev pub before_first : ℕ → List (List ℕ) → List (List ℕ)
before_first b [] = (b ∷ []) ∷ []
before_first b (line ∷ lines) = (b ∷ line) ∷ lines

-- each line goes up to its LF, which is part of it; what stands behind the last LF, if anything does, is a line without one
abbrev pub lines_of : List ℕ → List (List ℕ)
lines_of [] = []
lines_of (b ∷ bs) = cond (b == 10) ((b ∷ []) ∷ lines_of bs) (before_first b (lines_of bs))

-- up to and with the first LF; only the contract of an inner function cites it
abbrev pub line_length : List ℕ → ℕ
line_length [] = 0
line_length (b ∷ bs) = cond (b == 10) 1 (suc (line_length bs))

-- a text is its first line and what lies behind it: the line has a byte, no LF but at its end, and if none there, nothing lies behind it
pub record FirstLine (text line behind : List ℕ) : Type 0 where
  pub together : text ≡ line ++ behind
  pub has_a_byte : 0 < length line
  pub no_feed_before_its_end : (k : ℕ) → suc k < length line → slice_index line k ≢ 10
  pub ended : (slice_index line (length line - 1) ≡ 10) ⊎ (behind ≡ [])
