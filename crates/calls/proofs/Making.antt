-- One call by the rules.
use Rattle.std.proofs.Common.{◌≡◌, sym, refl, subst}
use Rattle.bus.specs.Memory.{Memory, Sound, read_of, write_of, answer_of}
use Rattle.bus.proofs.Ruling.{read_rule, write_rule}
use Rattle.calls.specs.declared.call.Call.{Call}
use Rattle.calls.specs.declared.call.Call.TheVariants.{Read, Write}
use Rattle.calls.specs.declared.call.Answer.{Answer}
use Rattle.calls.specs.Calls.{answer_to, memory_after_call}
use Rattle.calls.specs.Laws.{ByRule}

pub by_rule : (m : Memory) → Sound m → (c : Call) (r : Answer) (n : Memory) → r ≡ answer_to m c → n ≡ memory_after_call m c → ByRule m c r n
by_rule m sound (Read a) r n p q = subst (λ x. ByRule m (Read a) x n) (sym p) (read_rule m a.at.0 a.width sound (read_of m a.at.0 a.width) refl, q)
by_rule m sound (Write a v) r n p q = subst (λ x. ByRule m (Write a v) x n) (sym p) (write_rule m a.at.0 a.width v (answer_of (write_of m a.at.0 a.width v)) n (record { answer = refl; after = q }))
