-- What a whole set-up prints.
use Rattle.std.specs.Prelude.{ℕ, List, take, replicate}
use Rattle.bus.specs.Memory.{Memory}
use Rattle.parts.specs.Parts.{bank_cells}
use Rattle.setup.specs.Text.{lines_of}
use Rattle.session.specs.Sessions.{fresh, lines_told}

-- a board of one bank, first zero
abbrev pub board : Memory
board = bank_cells 0x1c000000 (replicate 32768 0)

-- the listing of a text on that board
abbrev pub set_up_listing : List ℕ → List ℕ
set_up_listing text = lines_told (fresh board) (lines_of text)

-- no more than 65,536 bytes are read
abbrev pub text_read : List ℕ → List ℕ
text_read bytes = take 65536 bytes
