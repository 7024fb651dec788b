-- That a layer over sound memories is sound.
use Rattle.std.specs.Prelude.{◌≡◌, ℕ, ◌<◌, Ok, Err, Result, nat_lt}
use Rattle.std.proofs.Common.{ap}
use Rattle.std.proofs.lemmas.Bool.{cond_both}
use Rattle.bus.specs.declared.refusal.BoardRefusal.{BoardRefusal}
use Rattle.bus.specs.Cell.{Cell, absent, fixed, writable}
use Rattle.bus.specs.Memory.{Memory, Sound, held, within}
use Rattle.bus.specs.Board.{range_check, border_check, nothing, by_check}
use Rattle.bus.specs.Soundness.{nothing_sound, part_sound}
use Rattle.layers.specs.Layers.{sides, split_cells, shift_cells, locked, locked_from, lock_cells}

checked_sound : (r : Result (Unit {0}) BoardRefusal) (m : Memory) → Sound m → Sound (by_check r m nothing)
checked_sound (Ok _) m s = s
checked_sound (Err e) m s = nothing_sound

pub split_sound : (c : ℕ) (lo hi : Memory) → Sound lo → Sound hi → Sound (split_cells c lo hi)
split_sound c lo hi p q = checked_sound (border_check c) (sides c lo hi) (record {
  ends = λ a l. cond_both (nat_lt a c) (lo a) (hi a) (λ x. x ≡ absent) (λ _. p.ends a l) (λ _. q.ends a l);
  bytes = λ a. cond_both (nat_lt a c) (lo a) (hi a) (λ x. held x < 256) (λ _. p.bytes a) (λ _. q.bytes a);
})

pub shift_sound : (b n : ℕ) (m : Memory) → Sound m → Sound (shift_cells b n m)
shift_sound b n m p = part_sound b n m p.bytes

locked_byte : (c : Cell) → held c < 256 → held (locked c) < 256
locked_byte absent l = l
locked_byte (fixed b) l = l
locked_byte (writable b) l = l

pub lock_sound : (b n : ℕ) (m : Memory) → Sound m → Sound (lock_cells b n m)
lock_sound b n m p = checked_sound (range_check b n) (locked_from b n m) (record {
  ends = λ a l. cond_both (within b n a) (locked (m a)) (m a) (λ x. x ≡ absent) (λ _. ap locked (p.ends a l)) (λ _. p.ends a l);
  bytes = λ a. cond_both (within b n a) (locked (m a)) (m a) (λ x. held x < 256) (λ _. locked_byte (m a) (p.bytes a)) (λ _. p.bytes a);
})
