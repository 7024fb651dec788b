-- That a part keeps to the addresses there are and holds bytes.
use Rattle.std.specs.Prelude.{ℕ, ◌+◌, ◌-◌, ◌%◌, ◌^◌, ◌<◌, ◌≤◌, not, ◌&&◌, ◌==◌, nat_le, nat_lt, refl}
use Rattle.std.proofs.Common.{arith, lit<}
use Rattle.std.proofs.lemmas.Bool.{cond-false, cond_both, and_right, le-ltb, leb-true}
use Rattle.bus.specs.Cell.{Cell, absent}
use Rattle.bus.specs.Memory.{Sound, held, within}
use Rattle.bus.specs.Board.{nothing, by_check, cells_from, part_cells}

pub nothing_sound : Sound nothing
nothing_sound = record { ends = λ a p. refl; bytes = λ a. lit< tt }

cells_sound : (b n : ℕ) (f : ℕ → Cell) → b + n ≤ 2 ^ 32 → ((k : ℕ) → held (f k) < 256) → Sound (cells_from b n f)
cells_sound b n f l h = record {
  ends = λ a p. cond-false (within b n a) (f (a - b)) absent (and_right (nat_le b a) (nat_lt a (b + n)) (le-ltb a (b + n) (omega arith)));
  bytes = λ a. cond_both (within b n a) (f (a - b)) absent (λ c. held c < 256) (λ _. h (a - b)) (λ _. lit< tt);
}

pub part_sound : (b n : ℕ) (f : ℕ → Cell) → ((k : ℕ) → held (f k) < 256) → Sound (part_cells b n f)
part_sound b n f h =
    cond_both (b % 4 == 0 && (n % 4 == 0 && not (n == 0))) _ _ (λ r. Sound (by_check r (cells_from b n f) nothing))
    (λ _. cond_both (nat_le (b + n) (2 ^ 32)) _ _ (λ r. Sound (by_check r (cells_from b n f) nothing)) (λ e. cells_sound b n f (leb-true (b + n) (2 ^ 32) e) h) (λ _. nothing_sound))
    (λ _. nothing_sound)
