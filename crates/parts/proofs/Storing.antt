-- What a write to a part over a list leaves.
use Rattle.std.proofs.Common.{◌≡◌, ℕ, zero, suc, ◌-◌, ◌%◌, Bool, true, false, cond, List, [], length, get_or, Some, None, Ok, Err, Result, sym, refl, ap, ◌∙◌, arith}
use Rattle.std.proofs.lemmas.Bool.Decides.{nat_tests}
use Rattle.std.proofs.lemmas.Bool.{cond-true, cond-false}
use Rattle.bus.specs.declared.refusal.BoardRefusal.{BoardRefusal}
use Rattle.bus.specs.declared.refusal.Refusal.TheVariants.{Absent}
use Rattle.bus.specs.Cell.{Cell, absent, writable}
use Rattle.bus.specs.Memory.{Memory, address, aligned, within, is_absent, byte_of, write_of, put}
use Rattle.bus.specs.Board.{range_check, nothing, by_check, cells_from, part_cells, offset_in}
use Rattle.bus.proofs.Accesses.{write_writable, Found, offset_found, is_put, lies_in, cells_put, part_accepted, Written, written_by, written_same}
use Rattle.parts.specs.Parts.{byte_cell, bank_cells, hidden_bytes}

-- a part has nothing at an address without an offset into it
absent_part : (b n : ℕ) (f : ℕ → Cell) (a : ℕ) → None ≡ offset_in b n a → part_cells b n f a ≡ absent
absent_part b n f a outside = by_range (range_check b n) outside
  where
    by_place : (t : Bool) → None ≡ cond t (Some (a - b)) None → cond t (f (a - b)) absent ≡ absent
    by_place true q = cc
    by_place false q = refl

    by_range : (r : Result (Unit {0}) BoardRefusal) → None ≡ by_check r (cond (within b n a) (Some (a - b)) None) None → by_check r (cells_from b n f) nothing a ≡ absent
    by_range (Ok _) q = by_place (within b n a) q
    by_range (Err e) q = refl

-- an aligned write is refused at its first byte, if that is absent
absent_written : (m : Memory) (a w v : ℕ) → aligned a w ≡ true → m a ≡ absent → Written m a w v (Err (Absent (address a))) m
absent_written m a zero v fit gone = absurd cc
absent_written m a (suc w) v fit gone = written_by m m a (suc w) v (Err (Absent (address a))) (cond-true _ _ _ fit ∙ cond-true _ _ _ (ap is_absent gone)) refl

-- an aligned write that begins outside a bank
pub outside_written : (b : ℕ) (xs : List ℕ) (a w v : ℕ) → aligned a w ≡ true → None ≡ offset_in b (length xs) a → Written (bank_cells b xs) a w v (Err (Absent (address a))) (bank_cells b xs)
outside_written b xs a w v fit outside = absent_written (bank_cells b xs) a w v fit (absent_part b (length xs) (byte_cell writable xs) a outside)

-- n cells from b on, of the list xs, and an access that begins in them
module _ (b n : ℕ) (xs ys : List ℕ) (a w v i : ℕ) (place : Found b n a i) (fit : aligned a w ≡ true)
    (stored : (k : ℕ) → get_or ys k 0 ≡ cond (within i w k) (byte_of v (k - i)) (get_or xs k 0)) where
  done : write_of (cells_from b n (byte_cell writable xs)) a w v ≡ Ok (put (cells_from b n (byte_cell writable xs)) a w v)
  done = write_writable (cells_from b n (byte_cell writable xs)) a w v fit (λ x p q. (get_or xs (x - b) 0 % 256, cond-true _ _ _ (lies_in b n a i place w x fit (grind (arith, nat_tests)))))

  cells_stored : byte_cell writable ys ≡ put (byte_cell writable xs) i w v
  cells_stored = is_put (byte_cell writable xs) (byte_cell writable ys) i w v named (λ k t. ap (λ y. writable (y % 256)) (stored k ∙ cond-false _ _ _ t))
    where
      named : (k : ℕ) → within i w k ≡ true → byte_cell writable ys k ≡ writable (byte_of v (k - i))
      named k t = ap (λ y. writable (y % 256)) (stored k ∙ cond-true _ _ _ t) ∙ ap writable (omega arith)

  replaced : cells_from b n (byte_cell writable ys) ≡ put (cells_from b n (byte_cell writable xs)) a w v
  replaced = ap (cells_from b n) cells_stored ∙ cells_put b n a i place (byte_cell writable xs) w v fit

  cells_written : Written (cells_from b n (byte_cell writable xs)) a w v (Ok tt) (cells_from b n (byte_cell writable ys))
  cells_written = written_by (cells_from b n (byte_cell writable xs)) (cells_from b n (byte_cell writable ys)) a w v (Ok (put (cells_from b n (byte_cell writable xs)) a w v)) done replaced

-- a bank of xs at b, and its memory ys after the low bytes of v were stored at the place of an access
module _ (b : ℕ) (xs ys : List ℕ) (a w v i : ℕ) (fit : aligned a w ≡ true) (at_place : Some i ≡ offset_in b (length xs) a) (as_long : length ys ≡ length xs)
    (stored : (k : ℕ) → get_or ys k 0 ≡ cond (within i w k) (byte_of v (k - i)) (get_or xs k 0)) where
  place : Found b (length xs) a i
  place = offset_found b (length xs) a i at_place

  pub bank_written : Written (bank_cells b xs) a w v (Ok tt) (bank_cells b ys)
  bank_written =
      written_same (cells_from b (length xs) (byte_cell writable xs)) (bank_cells b xs) (cells_from b (length xs) (byte_cell writable ys)) (bank_cells b ys) a w v (Ok tt)
      (sym (part_accepted b (length xs) (byte_cell writable xs) place.range.checked))
      (ap (λ n. by_check (range_check b n) (cells_from b n (byte_cell writable ys)) nothing) as_long ∙ part_accepted b (length xs) (byte_cell writable ys) place.range.checked)
      (cells_written b (length xs) xs ys a w v i place fit stored)

  pub bank_hidden : hidden_bytes b ys ≡ hidden_bytes b xs
  bank_hidden = ap (λ n. by_check (range_check b n) [] ys) as_long ∙ ap (λ r. by_check r [] ys) place.range.checked ∙ sym (ap (λ r. by_check r [] xs) place.range.checked)
