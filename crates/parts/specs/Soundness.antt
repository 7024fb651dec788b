-- That a part over a list keeps to the addresses there are and holds bytes.
use Rattle.std.specs.Prelude.{ℕ, List, length}
use Rattle.std.proofs.Common.{arith}
use Rattle.bus.specs.Cell.{fixed, writable}
use Rattle.bus.specs.Memory.{Sound}
use Rattle.bus.specs.Soundness.{part_sound}
use Rattle.parts.specs.Parts.{byte_cell, bank_cells, image_cells}

pub bank_sound : (b : ℕ) (xs : List ℕ) → Sound (bank_cells b xs)
bank_sound b xs = part_sound b (length xs) (byte_cell writable xs) (λ k. omega arith)

pub image_sound : (b : ℕ) (xs : List ℕ) → Sound (image_cells b xs)
image_sound b xs = part_sound b (length xs) (byte_cell fixed xs) (λ k. omega arith)
