use Rattle.std.proofs.Common.{rules, ◌≡◌, ℕ, ◌-◌, cond, length, get_or, Some, None, Ok, Err, refl, subst, ◌∙◌}
use Rattle.bus.specs.declared.refusal.Refusal.TheVariants.{Absent}
use Rattle.bus.specs.Memory.{within, byte_of}
use Rattle.bus.specs.Width.{access_check}
use Rattle.bus.specs.Board.{offset_in}
use Rattle.bus.proofs.Accesses.{access_checked}
use Rattle.parts.proofs.Storing.{outside_written, bank_written, bank_hidden}
use Rattle.parts.proofs.lent.write.Goals as goal

pub returns-in_err-offset : goal.returns-in_err-offset
returns-in_err-offset c =
    let a = c.args.access in
    let xs = c.args.memory.now in
    let checked : Ok c.in_ok-width.width ≡ access_check a.at.0 a.width = search rules in
    let outside : None ≡ offset_in c.args.reach.now.base.0 (length xs) a.at.0 = search rules in
    let named : c.from_residual-in_err-offset.result ≡ Err (Absent a.at) = search rules in
    let written = outside_written c.args.reach.now.base.0 xs a.at.0 a.width c.args.value (access_checked a.at.0 a.width c.in_ok-width.width checked).0 outside in
    record { value = named ∙ written.answer; after = written.after; hidden = refl }

pub returns : goal.returns
returns c =
    let xs = c.args.memory.now in
    let ys = c.store.new.memory in
    let a = c.args.access in
    let i = c.in_ok-offset.offset in
    let checked : Ok c.in_ok-width.width ≡ access_check a.at.0 a.width = search rules in
    let width = access_checked a.at.0 a.width c.in_ok-width.width checked in
    let found : Some i ≡ offset_in c.args.reach.now.base.0 (length xs) a.at.0 = search rules in
    let stored = subst (λ n. (k : ℕ) → get_or ys k 0 ≡ cond (within i n k) (byte_of c.args.value (k - i)) (get_or xs k 0)) width.1 c.store.ensures in
    let written = bank_written c.args.reach.now.base.0 xs ys a.at.0 a.width c.args.value i width.0 found c.store.auto.memory stored in
    record { value = written.answer; after = written.after; hidden = bank_hidden c.args.reach.now.base.0 xs ys a.at.0 a.width c.args.value i width.0 found c.store.auto.memory stored }
