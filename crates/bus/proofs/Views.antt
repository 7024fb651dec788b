-- An access to a memory is answered as one to another, where the one shows the cells of the other and names their addresses its own way.
use Rattle.std.proofs.Common.{◌≡◌, ℕ, zero, suc, ◌+◌, ◌*◌, ◌<◌, Bool, true, false, cond, Ok, Err, Result, sym, refl, ap, ◌∙◌, subst, ap₂, arith}
use Rattle.std.proofs.lemmas.Bool.{cond-true, cond-false}
use Rattle.bus.specs.declared.address.PhysAddr.{PhysAddr}
use Rattle.bus.specs.declared.refusal.Refusal.{Refusal}
use Rattle.bus.specs.declared.refusal.Refusal.TheVariants.{Misaligned, Absent, Fixed}
use Rattle.bus.specs.Cell.{Cell}
use Rattle.bus.specs.Memory.{Memory, address, held, aligned, is_absent, is_fixed, unless_any, value_at, read_of, write_of, answer_of, memory_after, put}

-- an answer of one memory, as the other gives it on
abbrev pub seen : {X Y : Type 0} → (Refusal → Refusal) → (X → Y) → Result X Refusal → Result Y Refusal
seen named up (Ok x) = Ok (up x)
seen named up (Err e) = Err (named e)

pub seen_answer : (named : Refusal → Refusal) (up : Memory → Memory) (r : Result Memory Refusal) → answer_of (seen named up r) ≡ seen named (λ u. u) (answer_of r)
seen_answer named up (Ok m) = refl
seen_answer named up (Err e) = refl

pub seen_after : (named : Refusal → Refusal) (up : Memory → Memory) (f : Memory) (r : Result Memory Refusal) → memory_after (up f) (seen named up r) ≡ up (memory_after f r)
seen_after named up f (Ok m) = refl
seen_after named up f (Err e) = refl

pub seen_same : {X : Type 0} (r : Result X Refusal) → seen (λ e. e) (λ x. x) r ≡ r
seen_same (Ok x) = refl
seen_same (Err e) = refl

-- x, unless a write to the w bytes of f from k on is refused
abbrev pub unless_refused : {X : Type 0} → Memory → ℕ → ℕ → X → Result X Refusal
unless_refused f k w x = cond (aligned k w) (unless_any is_absent Absent f k w (unless_any is_fixed Fixed f k w (Ok x))) (Err Misaligned)

-- m shows at a what f has at k, and a refusal there is named so
pub record Shown (m f : Memory) (named : Refusal → Refusal) (a k : ℕ) : Type 0 where
  pub cell : m a ≡ f k
  pub absent_named : Absent (address a) ≡ named (Absent (address k))
  pub fixed_named : Fixed (address a) ≡ named (Fixed (address k))

tested_cell : {X Y : Type 0} (named : Refusal → Refusal) (up : X → Y) (t : Bool) (e d : Refusal) (r : Result X Refusal) → e ≡ named d → cond t (Err e) (seen named up r) ≡ seen named up (cond t (Err d) r)
tested_cell named up true e d r q = ap Err q
tested_cell named up false e d r q = refl

module _ (m f : Memory) (named : Refusal → Refusal) where
  -- the n cells from a on are those of f from k on
  abbrev pub AllShown : ℕ → ℕ → ℕ → Type 0
  AllShown a k n = (j : ℕ) → j < n → Shown m f named (a + j) (k + j)

  first : (a k n : ℕ) → AllShown a k (suc n) → Shown m f named a k
  first a k n h =
      let p : a + 0 ≡ a = omega arith in
      let q : k + 0 ≡ k = omega arith in
      subst (λ x. Shown m f named x k) p (subst (λ y. Shown m f named (a + 0) y) q (h 0 (omega arith)))

  later : (a k n : ℕ) → AllShown a k (suc n) → AllShown (suc a) (suc k) n
  later a k n h j l =
      let p : a + suc j ≡ suc a + j = omega arith in
      let q : k + suc j ≡ suc k + j = omega arith in
      subst (λ x. Shown m f named x (suc k + j)) p (subst (λ y. Shown m f named (a + suc j) y) q (h (suc j) (omega arith)))

  value_shown : (a k n : ℕ) → AllShown a k n → value_at m a n ≡ value_at f k n
  value_shown a k zero h = refl
  value_shown a k (suc n) h = ap₂ (λ c v. held c + 256 * v) (first a k n h).cell (value_shown (suc a) (suc k) n (later a k n h))

  tested_shown : {X Y : Type 0} (up : X → Y) (p : Cell → Bool) (refused : PhysAddr → Refusal) (pick : (a k : ℕ) → Shown m f named a k → refused (address a) ≡ named (refused (address k)))
      → (a k n : ℕ) (r : Result X Refusal) → AllShown a k n → unless_any p refused m a n (seen named up r) ≡ seen named up (unless_any p refused f k n r)
  tested_shown up p refused pick a k zero r h = refl
  tested_shown up p refused pick a k (suc n) r h =
      ap₂ (λ c t. cond (p c) (Err (refused (address a))) t) (first a k n h).cell (tested_shown up p refused pick (suc a) (suc k) n r (later a k n h))
      ∙ tested_cell named up (p (f k)) (refused (address a)) (refused (address k)) (unless_any p refused f (suc k) n r) (pick a k (first a k n h))

  present_shown : {X Y : Type 0} (up : X → Y) (a k n : ℕ) (r : Result X Refusal) → AllShown a k n → unless_any is_absent Absent m a n (seen named up r) ≡ seen named up (unless_any is_absent Absent f k n r)
  present_shown up a k n r h = tested_shown up is_absent Absent (λ x y s. s.absent_named) a k n r h

  unfixed_shown : {X Y : Type 0} (up : X → Y) (a k n : ℕ) (r : Result X Refusal) → AllShown a k n → unless_any is_fixed Fixed m a n (seen named up r) ≡ seen named up (unless_any is_fixed Fixed f k n r)
  unfixed_shown up a k n r h = tested_shown up is_fixed Fixed (λ x y s. s.fixed_named) a k n r h

  module _ (a k w : ℕ) (fits_alike : aligned a w ≡ aligned k w) (misfit : Misaligned ≡ named Misaligned) (shown : aligned a w ≡ true → AllShown a k w) where
    pub read_seen : read_of m a w ≡ seen named (λ v. v) (read_of f k w)
    read_seen = go (aligned a w) refl
      where
        go : (t : Bool) → aligned a w ≡ t → read_of m a w ≡ seen named (λ v. v) (read_of f k w)
        go true e =
            cond-true (aligned a w) _ _ e
            ∙ ap (λ v. unless_any is_absent Absent m a w (Ok v)) (value_shown a k w (shown e))
            ∙ present_shown (λ v. v) a k w (Ok (value_at f k w)) (shown e)
            ∙ sym (ap (seen named (λ v. v)) (cond-true (aligned k w) _ _ (sym fits_alike ∙ e)))
        go false e =
            cond-false (aligned a w) _ _ e
            ∙ ap Err misfit
            ∙ sym (ap (seen named (λ v. v)) (cond-false (aligned k w) _ _ (sym fits_alike ∙ e)))

    pub write_seen : {X : Type 0} (up : X → Memory) (x : X) (v : ℕ) → (aligned a w ≡ true → up x ≡ put m a w v) → write_of m a w v ≡ seen named up (unless_refused f k w x)
    write_seen up x v puts = go (aligned a w) refl
      where
        go : (t : Bool) → aligned a w ≡ t → write_of m a w v ≡ seen named up (unless_refused f k w x)
        go true e =
            cond-true (aligned a w) _ _ e
            ∙ ap (λ n. unless_any is_absent Absent m a w (unless_any is_fixed Fixed m a w (Ok n))) (sym (puts e))
            ∙ ap (unless_any is_absent Absent m a w) (unfixed_shown up a k w (Ok x) (shown e))
            ∙ present_shown up a k w (unless_any is_fixed Fixed f k w (Ok x)) (shown e)
            ∙ sym (ap (seen named up) (cond-true (aligned k w) _ _ (sym fits_alike ∙ e)))
        go false e =
            cond-false (aligned a w) _ _ e
            ∙ ap Err misfit
            ∙ sym (ap (seen named up) (cond-false (aligned k w) _ _ (sym fits_alike ∙ e)))
