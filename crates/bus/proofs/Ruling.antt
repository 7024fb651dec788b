-- That a read and a write answer by the rules.
use Rattle.std.proofs.Common.{◌≡◌, ℕ, zero, suc, ◌+◌, ◌*◌, ◌/◌, ◌%◌, ◌^◌, ◌<◌, ◌≤◌, Bool, true, false, cond, ◌||◌, eqb, leb, ◌⊎◌, Ok, Err, Result, sym, refl, ap, ◌∙◌, subst, inl, inr, ⊎_elim, mul_comm, pow-suc, arith, lit<}
use mathlib.Core.Path.{fun_ext}
use native.Mathlib.Nat.{div-div-eq-div-mul}
use Rattle.std.proofs.lemmas.Bool.Decides.{nat_tests}
use Rattle.std.proofs.lemmas.Bool.{cond-true, cond-false, both_ways, and_parts, and_from, or_cases, or_left, or_right, eqb-true, eq-eqb}
use Rattle.bus.specs.declared.address.PhysAddr.{PhysAddr}
use Rattle.bus.specs.declared.refusal.Refusal.{Refusal}
use Rattle.bus.specs.declared.refusal.Refusal.TheVariants.{Misaligned, Absent, Fixed}
use Rattle.bus.specs.Cell.{Cell, absent}
use Rattle.bus.specs.Layout.{hidden_cells}
use Rattle.bus.specs.Memory.{Memory, Sound, address, held, is_width, is_absent, is_fixed, unless_any, aligned, within, byte_of, value_at, read_of, write_of, answer_of, memory_after, put}
use Rattle.bus.specs.Rules.{Stands, Names, NoneNamed, LowestNamed, Reads, ReadRule, misaligned, missing, value, Replaced, WriteRule, unwritable, written}
use Rattle.bus.proofs.Accesses.{within_bounds, Written}

pub not_named : (a w x : ℕ) → within a w x ≡ false → Names a w x → ⊥
not_named a w x e l = grind (arith, nat_tests)

-- a scan passes where p is true of no cell, and else refuses the lowest
abbrev Passes : {X : Type 0} → (Cell → Bool) → (PhysAddr → Refusal) → Memory → ℕ → ℕ → Result X Refusal → Type 0
Passes p refused m a n r = NoneNamed p m a n × (unless_any p refused m a n r ≡ r)

abbrev Stops : {X : Type 0} → (Cell → Bool) → (PhysAddr → Refusal) → Memory → ℕ → ℕ → Result X Refusal → Type 0
Stops p refused m a n r = (x : ℕ) × (LowestNamed p m a n x × (unless_any p refused m a n r ≡ Err (refused (address x))))

module _ {X : Type 0} (p : Cell → Bool) (refused : PhysAddr → Refusal) (m : Memory) where
  further : (a n : ℕ) (r : Result X Refusal) → p (m a) ≡ false → Passes p refused m (suc a) n r ⊎ Stops p refused m (suc a) n r → Passes p refused m a (suc n) r ⊎ Stops p refused m a (suc n) r
  further a n r e (inl h) = inl (none, cond-false (p (m a)) _ _ e ∙ h.1)
    where
      none : NoneNamed p m a (suc n)
      none x l = go (leb x a) refl
        where
          go : (t : Bool) → leb x a ≡ t → p (m x) ≡ false
          go true u = let q : x ≡ a = grind (arith, nat_tests) in ap (λ y. p (m y)) q ∙ e
          go false u = h.0 x (grind (arith, nat_tests))
  further a n r e (inr h) = inr (h.0, (low, cond-false (p (m a)) _ _ e ∙ h.1.1))
    where
      low : LowestNamed p m a (suc n) h.0
      low = record { named = omega (arith, h.1.0.named); true_there = h.1.0.true_there; false_below = λ y l u. below y l u }
        where
          below : (y : ℕ) → a ≤ y → y < h.0 → p (m y) ≡ false
          below y l u = go (leb y a) refl
            where
              go : (t : Bool) → leb y a ≡ t → p (m y) ≡ false
              go true v = let q : y ≡ a = grind (arith, nat_tests) in ap (λ z. p (m z)) q ∙ e
              go false v = h.1.0.false_below y (grind (arith, nat_tests)) u

  scan : (a n : ℕ) (r : Result X Refusal) → Passes p refused m a n r ⊎ Stops p refused m a n r
  scan a zero r = inl ((λ x l. absurd (omega arith)), refl)
  scan a (suc n) r = go (scan (suc a) n r) (p (m a)) refl
    where
      go : Passes p refused m (suc a) n r ⊎ Stops p refused m (suc a) n r → (t : Bool) → p (m a) ≡ t → Passes p refused m a (suc n) r ⊎ Stops p refused m a (suc n) r
      go rest true e = inr (a, (record { named = (omega arith, omega arith); true_there = e; false_below = λ y l u. absurd (omega arith) }, cond-true (p (m a)) _ _ e))
      go rest false e = further a n r e rest

pub width_cases : (w : ℕ) → is_width w ≡ true → (w ≡ 1) ⊎ ((w ≡ 2) ⊎ (w ≡ 4))
width_cases w e =
    ⊎_elim (λ p. inl (eqb-true w 1 p))
    (λ q. inr (⊎_elim (λ p. inl (eqb-true w 2 p)) (λ p. inr (eqb-true w 4 p)) (or_cases (eqb w 2) (eqb w 4) q)))
    (or_cases (eqb w 1) (eqb w 2 || eqb w 4) e)

aligned_stands : (a w : ℕ) → aligned a w ≡ true → Stands a w
aligned_stands a w e =
    let both = and_parts (is_width w) (eqb (a % w) 0) e in
    (width_cases w both.0, eqb-true (a % w) 0 both.1)

pub stands_aligned : (a w : ℕ) → Stands a w → aligned a w ≡ true
stands_aligned a w s = and_from (is_width w) (eqb (a % w) 0) (wide s.0) (eq-eqb (a % w) 0 s.1)
  where
    wide : (w ≡ 1) ⊎ ((w ≡ 2) ⊎ (w ≡ 4)) → is_width w ≡ true
    wide (inl p) = or_left (eqb w 1) _ (eq-eqb w 1 p)
    wide (inr (inl p)) = or_right (eqb w 1) _ (or_left (eqb w 2) _ (eq-eqb w 2 p))
    wide (inr (inr p)) = or_right (eqb w 1) _ (or_right (eqb w 2) _ (eq-eqb w 4 p))

misaligned_stands_not : (a w : ℕ) → aligned a w ≡ false → Stands a w → ⊥
misaligned_stands_not a w e s = both_ways (aligned a w) e (stands_aligned a w s)

-- the number in n cells has their bytes
module _ (m : Memory) (sound : Sound m) where
  value_below : (a n : ℕ) → value_at m a n < 256 ^ n
  value_below a zero = lit< tt
  value_below a (suc n) =
      let rest = value_below (suc a) n in
      let here = sound.bytes a in
      rw pow-suc (omega arith)

  value_byte : (a n k : ℕ) → k < n → byte_of (value_at m a n) k ≡ held (m (a + k))
  value_byte a zero k l = absurd (omega arith)
  value_byte a (suc n) zero l =
      let here = sound.bytes a in
      let same : a ≡ a + 0 = omega arith in
      let low : byte_of (held (m a) + 256 * value_at m (suc a) n) 0 ≡ held (m a) = omega arith in
      low ∙ ap (λ x. held (m x)) same
  value_byte a (suc n) (suc k) l =
      let here = sound.bytes a in
      let rest = value_byte (suc a) n k (omega arith) in
      let next : suc a + k ≡ a + suc k = omega arith in
      let high : (held (m a) + 256 * value_at m (suc a) n) / 256 ≡ value_at m (suc a) n = omega arith in
      let apart : (held (m a) + 256 * value_at m (suc a) n) / 256 ^ suc k ≡ (held (m a) + 256 * value_at m (suc a) n) / 256 / 256 ^ k = rw (div-div-eq-div-mul, pow-suc, mul_comm (256 ^ k) 256) in
      ap (λ x. x % 256) (apart ∙ ap (λ x. x / 256 ^ k) high) ∙ rest ∙ ap (λ x. held (m x)) next

  pub reads : (a w : ℕ) → Reads m a w (value_at m a w)
  reads a w = record { bytes = value_byte a w; no_more = value_below a w }

module _ (m : Memory) (a w : ℕ) where
  pub read_rule : Sound m → (r : Result ℕ Refusal) → r ≡ read_of m a w → ReadRule m a w r
  read_rule sound r q = subst (ReadRule m a w) (sym q) (go (aligned a w) refl)
    where
      go : (t : Bool) → aligned a w ≡ t → ReadRule m a w (read_of m a w)
      go true e =
          ⊎_elim
          (λ h. subst (ReadRule m a w) (sym (cond-true (aligned a w) _ _ e ∙ h.1)) (value (value_at m a w) (aligned_stands a w e) h.0 (reads m sound a w)))
          (λ h. subst (ReadRule m a w) (sym (cond-true (aligned a w) _ _ e ∙ h.1.1)) (missing (Absent (address h.0)) h.0 (aligned_stands a w e) h.1.0 (refl, refl)))
          (scan is_absent Absent m a w (Ok (value_at m a w)))
      go false e = subst (ReadRule m a w) (sym (cond-false (aligned a w) _ _ e)) (misaligned Misaligned (misaligned_stands_not a w e) (refl, refl))

  module _ (v : ℕ) where
    replaced : Replaced m a w v (put m a w v)
    replaced = record {
      named = λ x l. cond-true (within a w x) _ _ (grind (arith, nat_tests));
      others = λ x l. cond-false (within a w x) _ _ (outside x l);
    }
      where
        outside : (x : ℕ) → (Names a w x → ⊥) → within a w x ≡ false
        outside x l = go (within a w x) refl
          where
            go : (t : Bool) → within a w x ≡ t → within a w x ≡ false
            go true e = absurd (l (within_bounds a w x e))
            go false e = e

    abbrev Ruled : Result Memory Refusal → Type 0
    Ruled x = WriteRule m a w v (answer_of x) (memory_after m x)

    pub write_rule : (r : Result (Unit {0}) Refusal) (n : Memory) → Written m a w v r n → WriteRule m a w v r n
    write_rule r n h = subst (λ x. WriteRule m a w v x n) (sym h.answer) (subst (WriteRule m a w v (answer_of (write_of m a w v))) (sym h.after) (go (aligned a w) refl))
      where
        go : (t : Bool) → aligned a w ≡ t → Ruled (write_of m a w v)
        go true e =
            ⊎_elim
            (λ h. ⊎_elim
            (λ k. subst Ruled (sym (cond-true (aligned a w) _ _ e ∙ h.1 ∙ k.1)) (written (put m a w v) (aligned_stands a w e) h.0 k.0 replaced))
            (λ k. subst Ruled (sym (cond-true (aligned a w) _ _ e ∙ h.1 ∙ k.1.1)) (unwritable (Fixed (address k.0)) k.0 (aligned_stands a w e) h.0 k.1.0 (refl, refl)))
            (scan is_fixed Fixed m a w (Ok (put m a w v))))
            (λ h. subst Ruled (sym (cond-true (aligned a w) _ _ e ∙ h.1.1)) (missing (Absent (address h.0)) h.0 (aligned_stands a w e) h.1.0 (refl, refl)))
            (scan is_absent Absent m a w (unless_any is_fixed Fixed m a w (Ok (put m a w v))))
        go false e = subst Ruled (sym (cond-false (aligned a w) _ _ e)) (misaligned Misaligned (misaligned_stands_not a w e) (refl, refl))

    -- it changes no byte that it does not name
    pub unnamed_kept : (r : Result (Unit {0}) Refusal) (n : Memory) → WriteRule m a w v r n → (x : ℕ) → within a w x ≡ false → n x ≡ m x
    unnamed_kept r n (misaligned e s t) x out = refl
    unnamed_kept r n (missing e y s l t) x out = refl
    unnamed_kept r n (unwritable e y s h l t) x out = refl
    unnamed_kept r n (written k s h f q) x out = q.others x (not_named a w x out)

module _ (shown : ℕ → Bool) (m : Memory) (a w v : ℕ) (seen : aligned a w ≡ true → (x : ℕ) → within a w x ≡ true → shown x ≡ true) where
  hidden_standing : (r : Result (Unit {0}) Refusal) (n : Memory) → Stands a w → WriteRule m a w v r n → hidden_cells shown n ≡ hidden_cells shown m
  hidden_standing r n s rule = fun_ext (λ x. go x (within a w x) refl)
    where
      go : (x : ℕ) (t : Bool) → within a w x ≡ t → hidden_cells shown n x ≡ hidden_cells shown m x
      go x true e = let see = seen (stands_aligned a w s) x e in cond-true (shown x) _ _ see ∙ sym (cond-true (shown x) _ _ see)
      go x false e = ap (λ c. cond (shown x) absent c) (unnamed_kept m a w v r n rule x e)

  hidden_ruled : (r : Result (Unit {0}) Refusal) (n : Memory) → WriteRule m a w v r n → hidden_cells shown n ≡ hidden_cells shown m
  hidden_ruled r n (misaligned e s t) = refl
  hidden_ruled r n (missing e x s l t) = refl
  hidden_ruled r n (unwritable e x s h l t) = refl
  hidden_ruled r n (written k s h f q) = hidden_standing r k s (written k s h f q)

  -- a write of what is shown leaves what is hidden
  pub hidden_kept : (r : Result (Unit {0}) Refusal) (n : Memory) → Written m a w v r n → hidden_cells shown n ≡ hidden_cells shown m
  hidden_kept r n h = hidden_ruled r n (write_rule m a w v r n h)
