-- Outside its range a lock is written as the bus below, and inside it a write is refused.
use Rattle.std.proofs.Common.{◌≡◌, ℕ, zero, suc, ◌-◌, Bool, true, false, cond, Some, None, Ok, Err, Result, refl, sym, ap, ◌∙◌}
use Rattle.std.proofs.lemmas.Bool.{cond-true, cond-false, and_from, not_from_false}
use Rattle.std.specs.Option.{is_some}
use Rattle.bus.specs.declared.refusal.BoardRefusal.{BoardRefusal}
use Rattle.bus.specs.declared.refusal.Refusal.{Refusal}
use Rattle.bus.specs.declared.refusal.Refusal.TheVariants.{Misaligned, Absent, Fixed}
use Rattle.bus.specs.Cell.{Cell, absent, fixed, writable}
use Rattle.bus.specs.Memory.{Memory, address, aligned, within, is_absent, is_fixed, unless_any, value_at, read_of, write_of, answer_of, put}
use Rattle.bus.specs.Board.{range_check, is_accepted, nothing, by_check, offset_in}
use Rattle.bus.specs.Layout.{hidden_cells}
use Rattle.bus.proofs.Accesses.{stays_outside, Accepted, accepted, offset_none, Written, written_same}
use Rattle.bus.proofs.Ruling.{hidden_kept}
use Rattle.layers.specs.Layers.{locked, locked_from, lock_cells, shown_unlocked}
use Rattle.layers.proofs.SameAddresses.{written_over}

-- one cell of a read and of a write, which refuse it alike
refused_here : {X Y : Type 0} (t : Bool) (d e : Refusal) (p : Result X Refusal) (r : Result Y Refusal) → (Err e ≡ p → Err e ≡ r) → Err e ≡ cond t (Err d) p → Err e ≡ cond t (Err d) r
refused_here true d e p r behind q = cc
refused_here false d e p r behind q = behind q

passed_here : {X Y : Type 0} (t : Bool) (d : Refusal) (x : X) (p : Result X Refusal) (r s : Result Y Refusal) → (Ok x ≡ p → r ≡ s) → Ok x ≡ cond t (Err d) p → cond t (Err d) r ≡ s
passed_here true d x p r s behind q = cc
passed_here false d x p r s behind q = behind q

not_refused : {X : Type 0} (t : Bool) (d : Refusal) (x : X) (p : Result X Refusal) → Ok x ≡ cond t (Err d) p → t ≡ false
not_refused true d x p q = cc
not_refused false d x p q = refl

-- where a read finds an absent byte, so does a write
absent_alike : {X Y : Type 0} (m : Memory) (a n : ℕ) (x : X) (r : Result Y Refusal) (e : Refusal) → Err e ≡ unless_any is_absent Absent m a n (Ok x) → Err e ≡ unless_any is_absent Absent m a n r
absent_alike m a zero x r e q = cc
absent_alike m a (suc n) x r e q =
    refused_here (is_absent (m a)) (Absent (address a)) e (unless_any is_absent Absent m (suc a) n (Ok x)) (unless_any is_absent Absent m (suc a) n r) (absent_alike m (suc a) n x r e) q

-- and where it finds none, neither does a write
present_alike : {X Y : Type 0} (m : Memory) (a n : ℕ) (x y : X) (r : Result Y Refusal) → Ok y ≡ unless_any is_absent Absent m a n (Ok x) → unless_any is_absent Absent m a n r ≡ r
present_alike m a zero x y r q = refl
present_alike m a (suc n) x y r q =
    passed_here (is_absent (m a)) (Absent (address a)) y (unless_any is_absent Absent m (suc a) n (Ok x)) (unless_any is_absent Absent m (suc a) n r) r (present_alike m (suc a) n x y r) q

locked_absent : (t : Bool) (c : Cell) → is_absent (cond t (locked c) c) ≡ is_absent c
locked_absent true absent = refl
locked_absent true (fixed b) = refl
locked_absent true (writable b) = refl
locked_absent false c = refl

locked_fixed : (c : Cell) → is_absent c ≡ false → is_fixed (locked c) ≡ true
locked_fixed absent e = cc
locked_fixed (fixed b) e = refl
locked_fixed (writable b) e = refl

offset_inside : (t : Bool) (k : ℕ) → is_some (cond t (Some k) None) ≡ true → t ≡ true
offset_inside true k e = refl
offset_inside false k e = e

module _ (b n : ℕ) (m : Memory) where
  unless_locked : {X : Type 0} (a k : ℕ) (r : Result X Refusal) → unless_any is_absent Absent (locked_from b n m) a k r ≡ unless_any is_absent Absent m a k r
  unless_locked a zero r = refl
  unless_locked a (suc k) r = λ i. cond (locked_absent (within b n a) (m a) i) (Err (Absent (address a))) (unless_locked (suc a) k r i)

  -- an access that can be read and begins inside is refused at its first byte
  first_fixed : (a w x y : ℕ) → within b n a ≡ true → aligned a w ≡ true → Ok x ≡ unless_any is_absent Absent m a w (Ok y) → (r : Result Memory Refusal)
      → unless_any is_fixed Fixed (locked_from b n m) a w r ≡ Err (Fixed (address a))
  first_fixed a zero x y inside fit q r = cc
  first_fixed a (suc w) x y inside fit q r =
      let there : is_absent (m a) ≡ false = not_refused (is_absent (m a)) (Absent (address a)) x (unless_any is_absent Absent m (suc a) w (Ok y)) q in
      cond-true (is_fixed (locked_from b n m a)) _ _ (ap (λ t. is_fixed (cond t (locked (m a)) (m a))) inside ∙ locked_fixed (m a) there)

accepted_check : (r : Result (Unit {0}) BoardRefusal) → is_accepted r ≡ true → Ok tt ≡ r
accepted_check (Ok _) e = refl
accepted_check (Err _) e = absurd cc

module _ (b n : ℕ) (taken : is_accepted (range_check b n) ≡ true) (m : Memory) where
  checked : Ok tt ≡ range_check b n
  checked = accepted_check (range_check b n) taken

  lock_accepted : (f : Memory) → lock_cells b n f ≡ locked_from b n f
  lock_accepted f = ap (λ r. by_check r (locked_from b n f) nothing) (sym checked)

  range : Accepted b n
  range = accepted b n (sym checked)

  module _ (a w v : ℕ) where
    stays_out : None ≡ offset_in b n a → aligned a w ≡ true → (x : ℕ) → within a w x ≡ true → within b n x ≡ false
    stays_out outside fit x e = stays_outside b n a w x range.base_by_4 range.length_by_4 fit e (offset_none b n a (sym checked) outside)

    pub outside_write : None ≡ offset_in b n a → (r : Result (Unit {0}) Refusal) (f : Memory) → Written m a w v r f → Written (lock_cells b n m) a w v r (lock_cells b n f)
    outside_write outside r f h =
        written_same (locked_from b n m) (lock_cells b n m) (locked_from b n f) (lock_cells b n f) a w v r (sym (lock_accepted m)) (lock_accepted f)
        (written_over (λ x c. cond (within b n x) (locked c) c) m a w v
        (λ fit x e c. cond-false _ _ _ (stays_out outside fit x e)) r f h)

    pub outside_hidden : None ≡ offset_in b n a → (r : Result (Unit {0}) Refusal) (f : Memory) → Written m a w v r f → hidden_cells (shown_unlocked b n) f ≡ hidden_cells (shown_unlocked b n) m
    outside_hidden outside r f h = hidden_kept (shown_unlocked b n) m a w v (λ fit x e. and_from _ _ taken (not_from_false _ (stays_out outside fit x e))) r f h

    pub below_refused : (e : Refusal) → Err e ≡ read_of m a w → Err e ≡ answer_of (write_of (lock_cells b n m) a w v)
    below_refused e q = by_fit (aligned a w) q ∙ sym (ap (λ f. answer_of (write_of f a w v)) (lock_accepted m))
      where
        by_fit : (t : Bool) → Err e ≡ cond t (unless_any is_absent Absent m a w (Ok (value_at m a w))) (Err Misaligned)
            → Err e ≡ answer_of (cond t (unless_any is_absent Absent (locked_from b n m) a w (unless_any is_fixed Fixed (locked_from b n m) a w (Ok (put (locked_from b n m) a w v)))) (Err Misaligned))
        by_fit true p =
            let rest : Result Memory Refusal = unless_any is_fixed Fixed (locked_from b n m) a w (Ok (put (locked_from b n m) a w v)) in
            ap answer_of (absent_alike m a w (value_at m a w) rest e p ∙ sym (unless_locked b n m a w rest))
        by_fit false p = cc

    inside : is_some (offset_in b n a) ≡ true → within b n a ≡ true
    inside e = offset_inside (within b n a) (a - b) (ap (λ r. is_some (by_check r (cond (within b n a) (Some (a - b)) None) None)) checked ∙ e)

    pub inside_fixed : is_some (offset_in b n a) ≡ true → (x : ℕ) → Ok x ≡ read_of m a w → Err (Fixed (address a)) ≡ answer_of (write_of (lock_cells b n m) a w v)
    inside_fixed begins x q = by_fit (aligned a w) refl q ∙ sym (ap (λ f. answer_of (write_of f a w v)) (lock_accepted m))
      where
        by_fit : (t : Bool) → aligned a w ≡ t → Ok x ≡ cond t (unless_any is_absent Absent m a w (Ok (value_at m a w))) (Err Misaligned)
            → Err (Fixed (address a)) ≡ answer_of (cond t (unless_any is_absent Absent (locked_from b n m) a w (unless_any is_fixed Fixed (locked_from b n m) a w (Ok (put (locked_from b n m) a w v)))) (Err Misaligned))
        by_fit true fit p =
            let done : Result Memory Refusal = Ok (put (locked_from b n m) a w v) in
            let rest : Result Memory Refusal = unless_any is_fixed Fixed (locked_from b n m) a w done in
            ap answer_of (sym (unless_locked b n m a w rest ∙ present_alike m a w (value_at m a w) x rest p ∙ first_fixed b n m a w x (value_at m a w) (inside begins) fit p done))
        by_fit false fit p = cc
