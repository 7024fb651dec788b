use Rattle.std.proofs.Common.{◌≡◌, sym, ap, ◌∙◌, arith}
use Rattle.parts.specs.Parts.{bank_cells, hidden_bytes}
use Rattle.calls.specs.Calls.{answer_to, memory_after_call}
use Rattle.calls.proofs.GivingBack.{layout_parts, given_back}
use Rattle.calls.proofs.lent_memory.perform_in_memory.Goals as goal

pub returns : goal.returns
returns c =
    let b = c.args.base.0 in
    let xs = c.args.memory.now in
    let s = c.new-bank.result in
    let t = c.perform.new.bus in
    let same = layout_parts t.reach.base.0 t.memory.ghost_name s.reach.base.0 s.memory.ghost_name (hidden_bytes t.reach.base.0 t.memory.now) (hidden_bytes s.reach.base.0 s.memory.now) c.perform.ensures.kept in
    let same_name : t.memory.ghost_name ≡ s.memory.ghost_name = same.1 in
    let same_base : t.reach.base.0 ≡ b = same.0 ∙ ap (λ p. p.0) c.new-bank.ensures.base in
    let meant : bank_cells b t.memory.now ≡ memory_after_call (bank_cells b xs) c.args.call
    = ap (λ n. bank_cells n t.memory.now) (sym same_base) ∙ c.perform.ensures.after ∙ ap (λ m. memory_after_call m c.args.call) c.new-bank.ensures.cells in
    let hidden : hidden_bytes b t.memory.now ≡ hidden_bytes b xs
    = ap (λ n. hidden_bytes n t.memory.now) (sym same_base) ∙ same.2 ∙ (λ i. hidden_bytes (c.new-bank.ensures.base i).0 (c.new-bank.ensures.memory i)) in
    record {
      answer = c.perform.ensures.answer ∙ ap (λ m. answer_to m c.args.call) c.new-bank.ensures.cells;
      after = grind (arith, same_name, meant);
      bytes = given_back b xs _ (memory_after_call (bank_cells b xs) c.args.call) (omega arith) (λ k. omega (arith, c.type_inv.memory k)) (grind (arith, same_name, meant)) (grind (arith, same_name, hidden));
    }
