-- Reads and writes on two memories.
use Rattle.std.proofs.Common.{◌≡◌, ℕ, ◌+◌, ◌-◌, Bool, true, false, cond, ◌⊎◌, inl, inr, Ok, Err, Result, refl, sym, ap, ◌∙◌, subst, arith}
use Rattle.std.proofs.lemmas.Bool.{cond-false}
use Rattle.bus.specs.declared.refusal.Refusal.{Refusal}
use Rattle.bus.specs.Cell.{writable}
use Rattle.bus.specs.Memory.{Memory, within, byte_of, read_of, write_of, answer_of, memory_after, put}
use Rattle.bus.specs.Rules.{Names}
use Rattle.bus.proofs.Accesses.{within_bounds}
use Rattle.bus.proofs.Ruling.{write_rule, unnamed_kept}
use Rattle.bus.proofs.Views.{seen, seen_same, unless_refused, AllShown, read_seen, write_seen}

abbrev pub SameAt : Memory → Memory → ℕ → ℕ → Type 0
SameAt m n a w = (x : ℕ) → Names a w x → m x ≡ n x

same_shown : (m n : Memory) (a w : ℕ) → SameAt m n a w → AllShown m n (λ e. e) a a w
same_shown m n a w same j l = record { cell = same (a + j) (omega arith, omega arith); absent_named = refl; fixed_named = refl }

pub read_same : (m n : Memory) (a w : ℕ) → SameAt m n a w → read_of m a w ≡ read_of n a w
read_same m n a w same = read_seen m n (λ e. e) a a w refl refl (λ fit. same_shown m n a w same) ∙ seen_same (read_of n a w)

-- what a write leaves of two memories
pub data Both (m n : Memory) (a w : ℕ) : Result Memory Refusal → Result Memory Refusal → Type 0 where
  written : (k l : Memory) → ((x : ℕ) → m x ≡ n x → k x ≡ l x) → ((x : ℕ) → within a w x ≡ false → k x ≡ m x)
      → ((x : ℕ) → within a w x ≡ false → l x ≡ n x) → Both m n a w (Ok k) (Ok l)
  refused : (e : Refusal) → Both m n a w (Err e) (Err e)

module _ (m n : Memory) (a w v : ℕ) where
  both_seen : (r : Result (Unit {0}) Refusal) → Both m n a w (seen (λ e. e) (λ _. put m a w v) r) (seen (λ e. e) (λ _. put n a w v) r)
  both_seen (Ok _) = written (put m a w v) (put n a w v) (λ x same. ap (λ c. cond (within a w x) (writable (byte_of v (x - a))) c) same)
      (λ x out. cond-false (within a w x) _ _ out) (λ x out. cond-false (within a w x) _ _ out)
  both_seen (Err e) = refused e

  -- a write to memory that has n's cells there is refused as one to n
  seen_in : (k : Memory) → SameAt k n a w → write_of k a w v ≡ seen (λ e. e) (λ (_ : Unit {0}). put k a w v) (unless_refused n a w tt)
  seen_in k same = write_seen k n (λ e. e) a a w refl refl (λ fit. same_shown k n a w same) (λ _. put k a w v) tt v (λ fit. refl)

  pub write_both : SameAt m n a w → Both m n a w (write_of m a w v) (write_of n a w v)
  write_both same =
      subst (λ r. Both m n a w r (write_of n a w v)) (sym (seen_in m same))
      (subst (Both m n a w (seen (λ e. e) (λ _. put m a w v) (unless_refused n a w tt))) (sym (seen_in n (λ x names. refl))) (both_seen (unless_refused n a w tt)))

-- a write changes only bytes that it names
pub write_names : (m k : Memory) (a w v : ℕ) → write_of m a w v ≡ Ok k → (x : ℕ) → (k x ≡ m x) ⊎ Names a w x
write_names m k a w v is x = go (within a w x) refl
  where
    go : (t : Bool) → within a w x ≡ t → (k x ≡ m x) ⊎ Names a w x
    go true e = inr (within_bounds a w x e)
    go false e = inl (unnamed_kept m a w v (Ok tt) k (write_rule m a w v (Ok tt) k (record { answer = sym (ap answer_of is); after = sym (ap (memory_after m) is) })) x e)
