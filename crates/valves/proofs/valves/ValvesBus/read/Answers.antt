use Rattle.std.proofs.Common.{rules, ◌≡◌, true, Ok, sym, ap, ◌∙◌, ◌%◌}
use Rattle.bus.specs.Memory.{read_of, aligned, is_absent, held, byte_of}
use Rattle.bus.specs.Width.{access_check, width_bytes}
use Rattle.bus.proofs.Accesses.{access_checked}
use Rattle.valves.specs.Valves.{valve_cells}
use Rattle.valves.proofs.Words.{Holds, word_read}
use Rattle.valves.proofs.Cells.{channel_cell, shots_cell, poured_cell, status_cell}
use Rattle.valves.proofs.valves.ValvesBus.read.Goals as goal
use Rattle.valves.proofs.valves.ValvesBus.read.Goals.{in-0, in-1, in-2, in-3}

pub returns-clause-value : goal.returns-clause-value
returns-clause-value c =
    let v = c.args.self.now in
    let a = c.args.access.at.0 in
    let w = c.match-access-div4.word in
    let checked : Ok c.in_ok-width.width ≡ access_check a c.args.access.width = search rules in
    let width = access_checked a c.args.access.width c.in_ok-width.width checked in
    let holds : Holds (valve_cells v) w a =
    elim c.match-access-div4.branch [
      | in-0 arm ↦ λ x e. let cell = channel_cell v x (e ∙ arm.in-0.is) in (ap is_absent cell, ap held cell ∙ ap (λ y. byte_of y (x % 4)) (sym arm.word-is))
      | in-1 arm ↦ λ x e. let cell = shots_cell v x (e ∙ arm.in-1.is) in (ap is_absent cell, ap held cell ∙ ap (λ y. byte_of y (x % 4)) (sym arm.word-is))
      | in-2 arm ↦ λ x e. let cell = poured_cell v x (e ∙ arm.in-2.is) in (ap is_absent cell, ap held cell ∙ ap (λ y. byte_of y (x % 4)) (sym arm.word-is))
      | in-3 arm ↦ λ x e. let cell = status_cell v x (e ∙ arm.in-3.is) in (ap is_absent cell, ap held cell ∙ ap (λ y. byte_of y (x % 4)) (sym arm.number-word.ensures ∙ sym arm.word-is))
    ] in
    let fit : aligned a (width_bytes c.in_ok-width.width) ≡ true = ap (aligned a) width.1 ∙ width.0 in
    ap Ok c.bytes_named.ensures ∙ sym (ap (read_of (valve_cells v) a) (sym width.1) ∙ word_read (valve_cells v) w a c.in_ok-width.width fit holds)
