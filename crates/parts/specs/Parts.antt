-- What the parts at the bottom of a board hold.
use Rattle.std.specs.Prelude.{ℕ, ◌%◌, List, [], length, replicate, slice_index}
use Rattle.bus.specs.Cell.{Cell, fixed, writable}
use Rattle.bus.specs.Memory.{Memory}
use Rattle.bus.specs.Board.{range_check, by_check, part_cells}

-- the k-th byte of a list, in a cell of the given kind
abbrev pub byte_cell : (ℕ → Cell) → List ℕ → ℕ → Cell
byte_cell kind xs k = kind (slice_index xs k % 256)

-- a bank at b: the caller's bytes, open
abbrev pub bank_cells : ℕ → List ℕ → Memory
bank_cells b xs = part_cells b (length xs) (byte_cell writable xs)

-- an image at b: the caller's bytes, fixed
abbrev pub image_cells : ℕ → List ℕ → Memory
image_cells b xs = part_cells b (length xs) (byte_cell fixed xs)

-- a port block at b as it is made: 64 bytes of its own, open and zero
abbrev pub port_cells : ℕ → Memory
port_cells b = bank_cells b (replicate 64 0)

-- the bytes of a bank's memory that it does not show: all, where its numbers are refused
abbrev pub hidden_bytes : ℕ → List ℕ → List ℕ
hidden_bytes b xs = by_check (range_check b (length xs)) [] xs
