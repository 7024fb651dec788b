-- An access to a shift is one to the bus below, base lower.
use Rattle.std.proofs.Common.{◌≡◌, ℕ, ◌+◌, ◌-◌, ◌%◌, ◌^◌, ◌<◌, true, ltb, Some, Result, sym, refl, ap, ◌∙◌, arith}
use Rattle.std.proofs.lemmas.Bool.Decides.{nat_tests}
use Rattle.std.proofs.lemmas.Bool.{cond-true, and_from, lt-ltb}
use Rattle.bus.specs.declared.refusal.Refusal.{Refusal}
use Rattle.bus.specs.declared.refusal.Refusal.TheVariants.{Absent, Fixed}
use Rattle.bus.specs.Memory.{Memory, address, aligned, within, read_of, write_of, answer_of, memory_after, put}
use Rattle.bus.specs.Board.{is_accepted, cells_from, offset_in}
use Rattle.bus.specs.Layout.{hidden_cells}
use Rattle.bus.proofs.Accesses.{within_bounds, Found, offset_found, begins_in, lies_in, cells_put, part_accepted, Written, written_same}
use Rattle.bus.proofs.Ruling.{hidden_kept}
use Rattle.bus.proofs.Views.{seen, AllShown, read_seen, write_seen, seen_answer, seen_after}
use Rattle.layers.specs.Layers.{shift_cells, moved_by, shown_shifted}

module _ (f : Memory) (b n a w k : ℕ) (place : Found b n a k) where
  fits_alike : aligned a w ≡ aligned k w
  fits_alike = let p = place.offset in let s = begins_in b n a k place in let e = place.range.base_by_4 in grind (arith, nat_tests)

  names : (j : ℕ) → a + j < 2 ^ 32 → a + j ≡ ((k + j) + b) % 2 ^ 32
  names j l = omega (arith, (begins_in b n a k place).0, place.offset)

  shown : aligned a w ≡ true → AllShown (cells_from b n f) f (moved_by b) a k w
  shown fit j l =
      let named : within a w (a + j) ≡ true = grind (arith, nat_tests) in
      let covers = lies_in b n a k place w (a + j) fit named in
      let below : a + j < 2 ^ 32 = omega (arith, within_bounds b n (a + j) covers, place.range.inside) in
      let same : (a + j) - b ≡ k + j = omega (arith, (begins_in b n a k place).0, place.offset) in
      record {
        cell = cond-true _ _ _ covers ∙ ap f same;
        absent_named = ap (λ x. Absent (address x)) (names j below);
        fixed_named = ap (λ x. Fixed (address x)) (names j below);
      }

  cells_read : read_of (cells_from b n f) a w ≡ seen (moved_by b) (λ v. v) (read_of f k w)
  cells_read = read_seen (cells_from b n f) f (moved_by b) a k w fits_alike refl shown

  cells_write : (v : ℕ) → write_of (cells_from b n f) a w v ≡ seen (moved_by b) (cells_from b n) (write_of f k w v)
  cells_write v = write_seen (cells_from b n f) f (moved_by b) a k w fits_alike refl shown (cells_from b n) (put f k w v) v (cells_put b n a k place f w v)

-- a shift of f, and an access that lies k behind its base
module _ (f : Memory) (b n a w k : ℕ) (offset : Some k ≡ offset_in b n a) where
  place : Found b n a k
  place = offset_found b n a k offset

  shift_accepted : (g : Memory) → shift_cells b n g ≡ cells_from b n g
  shift_accepted g = part_accepted b n g place.range.checked

  pub read_shown : (r : Result ℕ Refusal) → r ≡ read_of f k w → seen (moved_by b) (λ v. v) r ≡ read_of (shift_cells b n f) a w
  read_shown r e = ap (seen (moved_by b) (λ v. v)) e ∙ sym (cells_read f b n a w k place) ∙ sym (ap (λ m. read_of m a w) (shift_accepted f))

  pub written_shown : (v : ℕ) (r : Result (Unit {0}) Refusal) (g : Memory) → Written f k w v r g → Written (shift_cells b n f) a w v (seen (moved_by b) (λ u. u) r) (shift_cells b n g)
  written_shown v r g h =
      written_same (cells_from b n f) (shift_cells b n f) (cells_from b n g) (shift_cells b n g) a w v (seen (moved_by b) (λ u. u) r) (sym (shift_accepted f)) (shift_accepted g)
      (record {
        answer = ap (seen (moved_by b) (λ u. u)) h.answer ∙ sym (ap answer_of (cells_write f b n a w k place v) ∙ seen_answer (moved_by b) (cells_from b n) (write_of f k w v));
        after = ap (cells_from b n) h.after ∙ sym (ap (memory_after (cells_from b n f)) (cells_write f b n a w k place v) ∙ seen_after (moved_by b) (cells_from b n) f (write_of f k w v));
      })

  pub shift_hidden : (v : ℕ) (r : Result (Unit {0}) Refusal) (g : Memory) → Written f k w v r g → hidden_cells (shown_shifted b n) g ≡ hidden_cells (shown_shifted b n) f
  shift_hidden v r g h = hidden_kept (shown_shifted b n) f k w v (λ fit x e. and_from _ _ (ap is_accepted place.range.checked) (below x fit e)) r g h
    where
      below : (x : ℕ) → aligned k w ≡ true → within k w x ≡ true → ltb x n ≡ true
      below x fit e =
          let o = place.offset in
          let s = within_bounds b n a place.begins in
          let p = within_bounds k w x e in
          let named : within a w (x + b) ≡ true = grind (arith, nat_tests) in
          let q = within_bounds b n (x + b) (lies_in b n a k place w (x + b) (fits_alike f b n a w k place ∙ fit) named) in
          lt-ltb x n (omega arith)
