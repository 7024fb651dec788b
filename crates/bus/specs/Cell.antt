-- What one address of a memory holds.
use Rattle.std.specs.Prelude.{ℕ}

-- a writable cell is what comments and documents call open, which is a word of this language
pub data Cell : Type 0 where
  absent : Cell
  fixed : ℕ → Cell
  writable : ℕ → Cell
