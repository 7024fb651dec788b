use Rattle.std.proofs.Common.{rules, ◌∙◌, arith}
use Rattle.std.proofs.lemmas.Bool.Decides.{nat_tests}
use Rattle.valves.specs.declared.valves.Valves.{Valves}
use Rattle.valves.specs.Valves.{valve_cells}
use Rattle.valves.proofs.Words.{word_written}
use Rattle.valves.proofs.Cells.{channel_cell, shots_cell}
use Rattle.valves.proofs.valves.ValvesBus.write.Goals as goal

pub returns-in-0-clause-after : goal.returns-in-0-clause-after
returns-in-0-clause-after c =
    let v = c.args.self.now in
    let after : Valves = record v { channel = c.with_bytes_named-self.result } in
    (word_written (valve_cells v) (valve_cells after) v.channel after.channel c.args.access.at.0 c.args.access.width c.args.value c.in_ok-width.width (search rules)
    c.with_bytes_named-self.ensures (λ x e. channel_cell v x (e ∙ c.in-0.is)) (λ x e. channel_cell after x (e ∙ c.in-0.is)) (λ x e. grind (arith, nat_tests))).after

pub returns-in-1-clause-after : goal.returns-in-1-clause-after
returns-in-1-clause-after c =
    let v = c.args.self.now in
    let after : Valves = record v { shots = c.with_bytes_named-self-in-1.result } in
    (word_written (valve_cells v) (valve_cells after) v.shots after.shots c.args.access.at.0 c.args.access.width c.args.value c.in_ok-width.width (search rules)
    c.with_bytes_named-self-in-1.ensures (λ x e. shots_cell v x (e ∙ c.in-1.is)) (λ x e. shots_cell after x (e ∙ c.in-1.is)) (λ x e. grind (arith, nat_tests))).after
