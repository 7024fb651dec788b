-- The entries before this one are done, and the others are as they were.
use Rattle.std.proofs.Common.{◌≡◌, length}
use Rattle.tlb.specs.declared.table.TheConstants.{ENTRIES}
use Rattle.tlb.proofs.Emptied.{PartDone}
use Rattle.tlb.proofs.table.Tlb.invalidate.Given as goal

abbrev pub invariant-loop-i : goal.invariant-loop-i
invariant-loop-i l = record {
  done : PartDone l.which l.i l.initial.self.entries l.self.entries;
  all : length l.initial.self.entries ≡ ENTRIES;
  place : l.self.fill_at ≡ l.initial.self.fill_at;
}
