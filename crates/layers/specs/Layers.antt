-- What a layer shows of the buses below it.
use Rattle.std.specs.Prelude.{ℕ, Bool, cond, not, ◌&&◌, nat_lt}
use Rattle.bus.specs.declared.refusal.Refusal.{Refusal}
use Rattle.bus.specs.declared.refusal.Refusal.TheVariants.{Misaligned, Absent, Fixed}
use Rattle.bus.specs.Cell.{Cell, absent, fixed, writable}
use Rattle.bus.specs.Memory.{Memory, address_after, within}
use Rattle.bus.specs.Board.{range_check, border_check, is_accepted, by_check, nothing, part_cells}

-- lo below c, and hi from there on
abbrev pub sides : ℕ → Memory → Memory → Memory
sides c lo hi a = cond (nat_lt a c) (lo a) (hi a)

-- a split with its border at c
abbrev pub split_cells : ℕ → Memory → Memory → Memory
split_cells c lo hi = by_check (border_check c) (sides c lo hi) nothing

-- a shift: m from its address 0 on, seen from b on for n bytes
abbrev pub shift_cells : ℕ → ℕ → Memory → Memory
shift_cells b n m = part_cells b n m

-- a refusal of the bus below, as it is seen b higher
abbrev pub moved_by : ℕ → Refusal → Refusal
moved_by b Misaligned = Misaligned
moved_by b (Absent at) = Absent (address_after at b)
moved_by b (Fixed at) = Fixed (address_after at b)

-- what can no longer be written
abbrev pub locked : Cell → Cell
locked absent = absent
locked (fixed b) = fixed b
locked (writable b) = fixed b

-- m, with the n cells from b on locked
abbrev pub locked_from : ℕ → ℕ → Memory → Memory
locked_from b n m a = cond (within b n a) (locked (m a)) (m a)

-- a lock of the n bytes from b on
abbrev pub lock_cells : ℕ → ℕ → Memory → Memory
lock_cells b n m = by_check (range_check b n) (locked_from b n m) nothing

-- Which cells of the bus below a layer shows as they are: none, where it is made of refused numbers.

abbrev pub shown_low : ℕ → ℕ → Bool
shown_low c a = is_accepted (border_check c) && nat_lt a c

abbrev pub shown_high : ℕ → ℕ → Bool
shown_high c a = is_accepted (border_check c) && not (nat_lt a c)

abbrev pub shown_shifted : ℕ → ℕ → ℕ → Bool
shown_shifted b n k = is_accepted (range_check b n) && nat_lt k n

abbrev pub shown_unlocked : ℕ → ℕ → ℕ → Bool
shown_unlocked b n a = is_accepted (range_check b n) && not (within b n a)
