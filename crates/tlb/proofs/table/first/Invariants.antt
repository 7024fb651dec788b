-- None of the entries before this one fits.
use Rattle.tlb.specs.Searching.{NoneFitsBelow}
use Rattle.tlb.proofs.table.first.Given as goal

abbrev pub invariant-loop-index : goal.invariant-loop-index
invariant-loop-index l = NoneFitsBelow l.entries l.at.0 l.asid l.index
