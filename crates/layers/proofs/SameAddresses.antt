-- An access to a layer that keeps the addresses of the bus below: to what it shows as it is, it is one to that bus.
use Rattle.std.proofs.Common.{◌≡◌, ℕ, ◌+◌, true, Result, sym, refl, ap, ◌∙◌, arith}
use Rattle.std.proofs.lemmas.Bool.Decides.{nat_tests}
use Rattle.std.proofs.lemmas.Bool.{cond-true, cond-false}
use Rattle.bus.specs.declared.refusal.Refusal.{Refusal}
use Rattle.bus.specs.Cell.{Cell}
use Rattle.bus.specs.Memory.{Memory, aligned, within, read_of, write_of, answer_of, memory_after, put}
use Rattle.bus.proofs.Accesses.{is_put, Written}
use Rattle.bus.proofs.Views.{seen, seen_answer, seen_after, seen_same, AllShown, read_seen, write_seen}

-- the layer shows each cell c of f at x as t x c
module _ (t : ℕ → Cell → Cell) (f : Memory) (a w : ℕ) (as_is : aligned a w ≡ true → (x : ℕ) → within a w x ≡ true → (c : Cell) → t x c ≡ c) where
  shown : aligned a w ≡ true → AllShown (λ x. t x (f x)) f (λ e. e) a a w
  shown fit j l =
      let named : within a w (a + j) ≡ true = grind (arith, nat_tests) in
      record { cell = as_is fit (a + j) named (f (a + j)); absent_named = refl; fixed_named = refl }

  pub read_over : (r : Result ℕ Refusal) → r ≡ read_of f a w → r ≡ read_of (λ x. t x (f x)) a w
  read_over r told = told ∙ sym (read_seen (λ x. t x (f x)) f (λ e. e) a a w refl refl shown ∙ seen_same (read_of f a w))

module _ (t : ℕ → Cell → Cell) (f : Memory) (a w v : ℕ) (as_is : aligned a w ≡ true → (x : ℕ) → within a w x ≡ true → (c : Cell) → t x c ≡ c) where
  abbrev pub over : Memory → Memory
  over g x = t x (g x)

  puts : aligned a w ≡ true → over (put f a w v) ≡ put (over f) a w v
  puts fit =
      is_put (over f) (over (put f a w v)) a w v (λ x e. as_is fit x e (put f a w v x) ∙ cond-true (within a w x) _ _ e) (λ x e. ap (t x) (cond-false (within a w x) _ _ e))

  write_over : write_of (over f) a w v ≡ seen (λ e. e) over (write_of f a w v)
  write_over = write_seen (over f) f (λ e. e) a a w refl refl (shown t f a w as_is) over (put f a w v) v puts

  pub written_over : (r : Result (Unit {0}) Refusal) (n : Memory) → Written f a w v r n → Written (over f) a w v r (over n)
  written_over r n h = record {
    answer = h.answer ∙ sym (ap answer_of write_over ∙ seen_answer (λ e. e) over (write_of f a w v) ∙ seen_same (answer_of (write_of f a w v)));
    after = ap over h.after ∙ sym (ap (memory_after (over f)) write_over ∙ seen_after (λ e. e) over f (write_of f a w v));
  }
