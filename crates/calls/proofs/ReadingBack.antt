-- What was written is read back.
use Rattle.std.proofs.Common.{◌≡◌, ℕ, ◌%◌, ◌^◌, true, Ok, Result, ap, ◌∙◌, arith}
use Rattle.std.proofs.lemmas.Bool.Decides.{nat_tests}
use Rattle.bus.specs.declared.refusal.Refusal.{Refusal}
use Rattle.bus.specs.Memory.{Memory, aligned, read_of, write_of, answer_of, memory_after, put}
use Rattle.bus.specs.Rules.{Replaced, WriteRule, written}
use Rattle.bus.proofs.Accesses.{within_bounds, is_put}
use Rattle.bus.proofs.Ruling.{stands_aligned, not_named, write_rule}
use Rattle.calls.specs.Calls.{read_back}

module _ (m : Memory) (a w v : ℕ) where
  replaced_put : (n : Memory) → Replaced m a w v n → n ≡ put m a w v
  replaced_put n q = is_put m n a w v (λ x e. q.named x (within_bounds a w x e)) (λ x e. q.others x (not_named a w x e))

  put_back : aligned a w ≡ true → read_of (put m a w v) a w ≡ Ok (v % 256 ^ w)
  put_back e = grind (arith, nat_tests)

  ruled_back : (n : Memory) → WriteRule m a w v (Ok tt) n → read_of n a w ≡ Ok (v % 256 ^ w)
  ruled_back n (written k s h f q) = ap (λ x. read_of x a w) (replaced_put k q) ∙ put_back (stands_aligned a w s)

  -- n is what a write left that was done
  pub read_back_lem : (n : Memory) (r : Result ℕ Refusal) → Ok tt ≡ answer_of (write_of m a w v) → n ≡ memory_after m (write_of m a w v) → r ≡ read_of n a w → r ≡ read_back (answer_of (write_of m a w v)) (v % 256 ^ w)
  read_back_lem n r e p q =
      q
      ∙ ruled_back n (write_rule m a w v (Ok tt) n (record { answer = e; after = p }))
      ∙ ap (λ x. read_back x (v % 256 ^ w)) e
