-- Little-endian numbers in a list of bytes.
use Rattle.std.specs.Prelude.{ℕ, List, slice_index}
use Rattle.bus.specs.Memory.{little_endian}

-- the number in the n bytes from i on
abbrev pub number_at : List ℕ → ℕ → ℕ → ℕ
number_at xs i n = little_endian (slice_index xs) i n
