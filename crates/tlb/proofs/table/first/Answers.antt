use Rattle.std.proofs.Common.{◌≡◌, ℕ, ◌<◌, true, length, Some, sym, ap, ◌∙◌, arith}
use Rattle.tlb.specs.Entries.{fits}
use Rattle.tlb.specs.Searching.{entry_of}
use Rattle.tlb.proofs.First.{fits_where_read, find_from_some, find_from_none}
use Rattle.tlb.proofs.table.first.Goals as goal

pub returns-then-fits-clause-value : goal.returns-then-fits-clause-value
returns-then-fits-clause-value c =
    let i : ℕ = c.loop-index.index in
    let es = c.args.entries.now in
    let within : i < length es = omega arith in
    let here : fits (entry_of es i) c.args.at.0 c.args.asid ≡ true =
    fits_where_read es i c.index-entries-index.result _ _ _ within c.index-entries-index.is c.if-fits.ensures in
    ap Some (omega arith) ∙ sym (find_from_some 0 i es _ _ within here c.loop-index.invariant)

pub returns-clause-value : goal.returns-clause-value
returns-clause-value c = sym (find_from_none 0 _ _ _ (λ j h. c.loop-index.invariant j (omega arith)))
