-- The bytes of a word that an access names. Only inner contracts cite this.
use Rattle.std.specs.Prelude.{ℕ, ◌-◌, ◌/◌, ◌%◌, ◌^◌, cond}
use Rattle.bus.specs.Memory.{within, byte_of, little_endian}

-- the number in the n bytes of a word from byte first on
abbrev pub bytes_from : ℕ → ℕ → ℕ → ℕ
bytes_from w first n = w / 256 ^ first % 256 ^ n

-- byte k of the word w when its n bytes from byte first on are replaced by the low ones of v
abbrev pub spliced : ℕ → ℕ → ℕ → ℕ → ℕ → ℕ
spliced w first n v k = cond (within first n k) (byte_of v (k - first)) (byte_of w k)

-- the word whose byte k is f k
abbrev pub word_of : (ℕ → ℕ) → ℕ
word_of f = little_endian f 0 4
