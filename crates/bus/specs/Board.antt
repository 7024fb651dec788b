-- What a board may be built of, and what a part of it holds.
use Rattle.std.specs.Prelude.{ℕ, ◌+◌, ◌-◌, ◌%◌, ◌^◌, Bool, true, false, cond, not, ◌&&◌, Some, None, Ok, Err, Option, Result, ◌==◌, nat_le}
use Rattle.bus.specs.declared.refusal.BoardRefusal.{BoardRefusal}
use Rattle.bus.specs.declared.refusal.BoardRefusal.TheVariants.{Uneven, PastEnd}
use Rattle.bus.specs.Cell.{Cell, absent}
use Rattle.bus.specs.Memory.{Memory, within}

-- whether a part may have n bytes from b on
abbrev pub range_check : ℕ → ℕ → Result (Unit {0}) BoardRefusal
range_check b n =
    cond (b % 4 == 0 && (n % 4 == 0 && not (n == 0)))
    (cond (nat_le (b + n) (2 ^ 32)) (Ok tt) (Err PastEnd))
    (Err Uneven)

-- whether a split may have its border at c
abbrev pub border_check : ℕ → Result (Unit {0}) BoardRefusal
border_check c = cond (c % 4 == 0) (Ok tt) (Err Uneven)

abbrev pub is_accepted : Result (Unit {0}) BoardRefusal → Bool
is_accepted (Ok _) = true
is_accepted (Err e) = false

abbrev pub nothing : Memory
nothing a = absent

-- x where a check accepted, and else y
abbrev pub by_check : {X : Type 0} → Result (Unit {0}) BoardRefusal → X → X → X
by_check (Ok _) x y = x
by_check (Err e) x y = y

-- n cells from b on, of which the k-th is f k
abbrev pub cells_from : ℕ → ℕ → (ℕ → Cell) → Memory
cells_from b n f a = cond (within b n a) (f (a - b)) absent

-- a part of n bytes from b on, whose k-th cell is f k; made of refused numbers, absent everywhere
abbrev pub part_cells : ℕ → ℕ → (ℕ → Cell) → Memory
part_cells b n f = by_check (range_check b n) (cells_from b n f) nothing

-- how far a lies behind b, if a part of n bytes from b on has it
abbrev pub offset_in : ℕ → ℕ → ℕ → Option ℕ
offset_in b n a = by_check (range_check b n) (cond (within b n a) (Some (a - b)) None) None

-- how many of n bytes from b on a part has: all, or none
abbrev pub accepted_length : ℕ → ℕ → ℕ
accepted_length b n = by_check (range_check b n) n 0
