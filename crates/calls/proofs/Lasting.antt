-- What no list of calls changes.
use Rattle.std.proofs.Common.{◌≡◌, ℕ, Bool, true, false, List, [], ◌∷◌, Result, sym, refl, ap, ◌∙◌}
use Rattle.std.proofs.lemmas.Bool.{or_parts, both_ways}
use Rattle.bus.specs.declared.refusal.Refusal.{Refusal}
use Rattle.bus.specs.Memory.{Memory, is_absent, is_fixed, within, write_of, answer_of, memory_after}
use Rattle.bus.specs.Rules.{NoneNamed, Replaced, WriteRule, misaligned, missing, unwritable, written}
use Rattle.bus.proofs.Accesses.{within_bounds}
use Rattle.bus.proofs.Ruling.{write_rule, unnamed_kept}
use Rattle.calls.specs.declared.call.Call.{Call}
use Rattle.calls.specs.declared.call.Call.TheVariants.{Read, Write}
use Rattle.calls.specs.Calls.{memory_through}
use Rattle.calls.specs.Laws.{writes, Lasting}

unchanged : (m : Memory) (named : ℕ → Bool) → Lasting m named m
unchanged m named = record { unnamed = λ x e. refl; kept = λ x e. refl; absence = λ x. refl; fixity = λ x. refl }

-- one write, which names the w bytes from a on
module _ (m : Memory) (a w v : ℕ) where
  replaced_lasting : (n : Memory) → ((x : ℕ) → within a w x ≡ false → n x ≡ m x) → NoneNamed is_absent m a w → NoneNamed is_fixed m a w → Replaced m a w v n → Lasting m (within a w) n
  replaced_lasting n others here free r = record {
    unnamed = others;
    kept = λ x e. kept_at x (within a w x) refl e;
    absence = λ x. absence_at x (within a w x) refl;
    fixity = λ x. fixity_at x (within a w x) refl;
  }
    where
      kept_at : (x : ℕ) (t : Bool) → within a w x ≡ t → is_fixed (m x) ≡ true → n x ≡ m x
      kept_at x true e q = absurd (both_ways (is_fixed (m x)) (free x (within_bounds a w x e)) q)
      kept_at x false e q = others x e

      absence_at : (x : ℕ) (t : Bool) → within a w x ≡ t → is_absent (n x) ≡ is_absent (m x)
      absence_at x true e = ap is_absent (r.named x (within_bounds a w x e)) ∙ sym (here x (within_bounds a w x e))
      absence_at x false e = ap is_absent (others x e)

      fixity_at : (x : ℕ) (t : Bool) → within a w x ≡ t → is_fixed (n x) ≡ is_fixed (m x)
      fixity_at x true e = ap is_fixed (r.named x (within_bounds a w x e)) ∙ sym (free x (within_bounds a w x e))
      fixity_at x false e = ap is_fixed (others x e)

  ruled_lasting : (r : Result (Unit {0}) Refusal) (n : Memory) → WriteRule m a w v r n → Lasting m (within a w) n
  ruled_lasting r n (misaligned e s t) = unchanged m (within a w)
  ruled_lasting r n (missing e x s l t) = unchanged m (within a w)
  ruled_lasting r n (unwritable e x s h l t) = unchanged m (within a w)
  ruled_lasting r n (written k s h f q) = replaced_lasting k (unnamed_kept m a w v r k (written k s h f q)) h f q

  write_lasting : Lasting m (within a w) (memory_after m (write_of m a w v))
  write_lasting =
      ruled_lasting (answer_of (write_of m a w v)) (memory_after m (write_of m a w v)) (write_rule m a w v (answer_of (write_of m a w v)) (memory_after m (write_of m a w v)) (record { answer = refl; after = refl }))

pub lasting : (m : Memory) (cs : List Call) → Lasting m (writes cs) (memory_through m cs)
lasting m [] = unchanged m (writes [])
lasting m (Read a ∷ cs) = lasting m cs
lasting m (Write a v ∷ cs) =
    let one = write_lasting m a.at.0 a.width v in
    let rest = lasting (memory_after m (write_of m a.at.0 a.width v)) cs in
    record {
      unnamed = λ x e. let parts = or_parts (within a.at.0 a.width x) (writes cs x) e in rest.unnamed x parts.1 ∙ one.unnamed x parts.0;
      kept = λ x e. rest.kept x (one.fixity x ∙ e) ∙ one.kept x e;
      absence = λ x. rest.absence x ∙ one.absence x;
      fixity = λ x. rest.fixity x ∙ one.fixity x;
    }
