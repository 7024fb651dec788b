-- Lemmas for any bus: spans that a board accepts, accesses inside and outside of one, and what a write leaves.
use Rattle.std.proofs.Common.{◌≡◌, ℕ, zero, suc, ◌+◌, ◌-◌, ◌%◌, ◌^◌, ◌<◌, ◌≤◌, Bool, true, false, cond, not, ◌&&◌, eqb, leb, Some, None, Ok, Err, Result, sym, refl, ap, ◌∙◌, arith}
use mathlib.Core.Path.{fun_ext}
use Rattle.std.proofs.lemmas.Bool.Decides.{nat_tests}
use Rattle.std.proofs.lemmas.Bool.{cond-true, cond-false}
use Rattle.bus.specs.declared.address.PhysAddr.{PhysAddr}
use Rattle.bus.specs.declared.refusal.BoardRefusal.{BoardRefusal}
use Rattle.bus.specs.declared.refusal.Refusal.{Refusal}
use Rattle.bus.specs.declared.refusal.Refusal.TheVariants.{Absent, Fixed}
use Rattle.bus.specs.declared.access.Width.{Width}
use Rattle.bus.specs.Cell.{Cell, absent, writable}
use Rattle.bus.specs.Board.{range_check, nothing, by_check, cells_from, part_cells, offset_in}
use Rattle.bus.specs.Width.{width_bytes, access_check}
use Rattle.bus.specs.Memory.{Memory, aligned, within, is_absent, is_fixed, unless_any, byte_of, write_of, answer_of, memory_after, put}

pub within_bounds : (a n x : ℕ) → within a n x ≡ true → (a ≤ x) × (x < a + n)
within_bounds a n x e = grind (arith, nat_tests)

-- a checked access is aligned, and has the width that the check gave
pub access_checked : (a w : ℕ) (k : Width) → Ok k ≡ access_check a w → (aligned a w ≡ true) × (width_bytes k ≡ w)
access_checked a w k e = (grind (arith, nat_tests), grind (arith, nat_tests))

-- an aligned access that begins in a span whose base and length are multiples of 4 lies in it, and one that begins outside stays outside
module _ (b n a w x : ℕ) (base_by_4 : b % 4 ≡ 0) (length_by_4 : n % 4 ≡ 0) (fit : aligned a w ≡ true) (named : within a w x ≡ true) where
  pub stays_inside : within b n a ≡ true → within b n x ≡ true
  stays_inside e = grind (arith, nat_tests)

  pub stays_outside : within b n a ≡ false → within b n x ≡ false
  stays_outside e = grind (arith, nat_tests)

-- what numbers have that a board accepts
pub record Accepted (b n : ℕ) : Type 0 where
  pub base_by_4 : b % 4 ≡ 0
  pub length_by_4 : n % 4 ≡ 0
  pub inside : b + n ≤ 2 ^ 32
  pub checked : range_check b n ≡ Ok tt

pub accepted : (b n : ℕ) → range_check b n ≡ Ok tt → Accepted b n
accepted b n e = go (eqb (b % 4) 0 && (eqb (n % 4) 0 && not (eqb n 0))) refl (leb (b + n) (2 ^ 32)) refl
  where
    go : (t : Bool) → (eqb (b % 4) 0 && (eqb (n % 4) 0 && not (eqb n 0))) ≡ t → (u : Bool) → leb (b + n) (2 ^ 32) ≡ u → Accepted b n
    go true p true q = record { base_by_4 = grind (arith, nat_tests); length_by_4 = grind (arith, nat_tests); inside = grind (arith, nat_tests); checked = e }
    go true p false q = absurd (grind (arith, nat_tests))
    go false p u q = absurd (grind (arith, nat_tests))

-- a part of accepted numbers, with an offset into it
pub record Found (b n a i : ℕ) : Type 0 where
  pub range : Accepted b n
  pub begins : within b n a ≡ true
  pub offset : i ≡ a - b

-- the check and the test given apart, so that each is split by cases
found_where : (b n a i : ℕ) (r : Result (Unit {0}) BoardRefusal) → range_check b n ≡ r → (t : Bool) → within b n a ≡ t → Some i ≡ by_check r (cond t (Some (a - b)) None) None → Found b n a i
found_where b n a i (Ok _) e true u q = record { range = accepted b n e; begins = u; offset = cc }
found_where b n a i (Ok _) e false u q = absurd cc
found_where b n a i (Err _) e t u q = absurd cc

pub offset_found : (b n a i : ℕ) → Some i ≡ offset_in b n a → Found b n a i
offset_found b n a i q = found_where b n a i (range_check b n) refl (within b n a) refl q

none_where : (b n a : ℕ) (t : Bool) → within b n a ≡ t → None ≡ cond t (Some (a - b)) None → within b n a ≡ false
none_where b n a true u q = absurd cc
none_where b n a false u q = u

-- an address without an offset lies outside an accepted span
pub offset_none : (b n a : ℕ) → range_check b n ≡ Ok tt → None ≡ offset_in b n a → within b n a ≡ false
offset_none b n a e q = none_where b n a (within b n a) refl (q ∙ ap (λ r. by_check r (cond (within b n a) (Some (a - b)) None) None) e)

-- a part of accepted numbers has its cells
pub part_accepted : (b n : ℕ) (f : ℕ → Cell) → range_check b n ≡ Ok tt → part_cells b n f ≡ cells_from b n f
part_accepted b n f e = ap (λ r. by_check r (cells_from b n f) nothing) e

-- n is m with w bytes from a on replaced by the low ones of v, shown byte by byte
pub is_put : (m n : Memory) (a w v : ℕ) → ((x : ℕ) → within a w x ≡ true → n x ≡ writable (byte_of v (x - a))) → ((x : ℕ) → within a w x ≡ false → n x ≡ m x) → n ≡ put m a w v
is_put m n a w v named others = fun_ext (λ x. go x (within a w x) refl)
  where
    go : (x : ℕ) (t : Bool) → within a w x ≡ t → n x ≡ put m a w v x
    go x true e = named x e ∙ sym (cond-true (within a w x) _ _ e)
    go x false e = others x e ∙ sym (cond-false (within a w x) _ _ e)

-- an access that begins in a part, i behind its base
module _ (b n a i : ℕ) (place : Found b n a i) where
  pub begins_in : (b ≤ a) × (a < b + n)
  begins_in = within_bounds b n a place.begins

  pub lies_in : (w x : ℕ) → aligned a w ≡ true → within a w x ≡ true → within b n x ≡ true
  lies_in w x fit named = stays_inside b n a w x place.range.base_by_4 place.range.length_by_4 fit named place.begins

  -- a write of it is one of the part's own cells from the i-th on
  pub cells_put : (f : Memory) (w v : ℕ) → aligned a w ≡ true → cells_from b n (put f i w v) ≡ put (cells_from b n f) a w v
  cells_put f w v fit = is_put (cells_from b n f) (cells_from b n (put f i w v)) a w v named other
    where
      named : (x : ℕ) → within a w x ≡ true → cells_from b n (put f i w v) x ≡ writable (byte_of v (x - a))
      named x e =
          let s = begins_in in
          let p = place.offset in
          let l = within_bounds a w x e in
          let q : within i w (x - b) ≡ true = grind (arith, nat_tests) in
          let same : (x - b) - i ≡ x - a = omega arith in
          cond-true _ _ _ (lies_in w x fit e) ∙ cond-true _ _ _ q ∙ ap (λ j. writable (byte_of v j)) same

      other : (x : ℕ) → within a w x ≡ false → cells_from b n (put f i w v) x ≡ cells_from b n f x
      other x e = go (within b n x) refl
        where
          go : (t : Bool) → within b n x ≡ t → cells_from b n (put f i w v) x ≡ cells_from b n f x
          go true u =
              let s = begins_in in
              let p = place.offset in
              let l = within_bounds b n x u in
              let q : within i w (x - b) ≡ false = grind (arith, nat_tests) in
              ap (λ c. cond (within b n x) c absent) (cond-false _ _ _ q)
          go false u = cond-false _ _ _ u ∙ sym (cond-false _ _ _ u)

-- what a write answers, and what it leaves
pub record Written (m : Memory) (a w v : ℕ) (r : Result (Unit {0}) Refusal) (n : Memory) : Type 0 where
  pub answer : r ≡ answer_of (write_of m a w v)
  pub after : n ≡ memory_after m (write_of m a w v)

-- a refused write leaves what was there
pub refused_after : (m n : Memory) (x : Result Memory Refusal) (e : Refusal) → Err e ≡ answer_of x → n ≡ m → n ≡ memory_after m x
refused_after m n (Ok k) e p q = absurd cc
refused_after m n (Err d) e p q = q

-- n is what a write leaves whose outcome is x
pub written_by : (m n : Memory) (a w v : ℕ) (x : Result Memory Refusal) → write_of m a w v ≡ x → n ≡ memory_after m x → Written m a w v (answer_of x) n
written_by m n a w v x e q = record { answer = sym (ap answer_of e); after = q ∙ sym (ap (memory_after m) e) }

-- a write stays one where the memories before and after are replaced by equal ones
pub written_same : (m m' n n' : Memory) (a w v : ℕ) (r : Result (Unit {0}) Refusal) → m ≡ m' → n' ≡ n → Written m a w v r n → Written m' a w v r n'
written_same m m' n n' a w v r p q h = record { answer = h.answer ∙ ap (λ x. answer_of (write_of x a w v)) p; after = q ∙ h.after ∙ ap (λ x. memory_after x (write_of x a w v)) p }

-- n cells from a on that can all be written
abbrev pub Writable : Memory → ℕ → ℕ → Type 0
Writable m a n = (x : ℕ) → a ≤ x → x < a + n → (b : ℕ) × (m x ≡ writable b)

module _ (m : Memory) where
  unless_writable : {X : Type 0} (p : Cell → Bool) (refused : PhysAddr → Refusal) → ((b : ℕ) → p (writable b) ≡ false) → (a n : ℕ) (r : Result X Refusal) → Writable m a n → unless_any p refused m a n r ≡ r
  unless_writable p refused pass a zero r h = refl
  unless_writable p refused pass a (suc n) r h =
      let here = h a (omega arith) (omega arith) in
      cond-false (p (m a)) _ _ (ap p here.1 ∙ pass here.0)
      ∙ unless_writable p refused pass (suc a) n r (λ x l u. h x (omega arith) (omega arith))

  -- a write to them is done
  pub write_writable : (a w v : ℕ) → aligned a w ≡ true → Writable m a w → write_of m a w v ≡ Ok (put m a w v)
  write_writable a w v fit h =
      cond-true (aligned a w) _ _ fit
      ∙ unless_writable is_absent Absent (λ b. refl) a w (unless_any is_fixed Fixed m a w (Ok (put m a w v))) h
      ∙ unless_writable is_fixed Fixed (λ b. refl) a w (Ok (put m a w v)) h
