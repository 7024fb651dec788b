use Rattle.std.proofs.Common.{◌∙◌, ap, arith, true, false}
use Rattle.tlb.specs.declared.table.Tlb.{Tlb}
use Rattle.tlb.proofs.Emptied.{one_more}
use Rattle.tlb.proofs.table.Tlb.invalidate.Goals as goal
use Rattle.tlb.proofs.table.Tlb.invalidate.Goals.{then-selects, else-selects}

pub loop-i-preserved : goal.loop-i-preserved
loop-i-preserved c =
    let before = c.loop-i.invariant in
    let more = one_more c.args.which c.loop-i.i c.args.self.now.entries c.loop-i.self.entries c.index-self-i.result in
    elim c.if-selects.branch [
      | then-selects w ↦ record {
        done = ap (λ (t : Tlb). t.entries) w.self-is
            ∙ more true (omega arith) before.done c.index-self-i.is w.if-selects.ensures;
        all = before.all;
        place = ap (λ (t : Tlb). t.fill_at) w.self-is ∙ before.place;
      }
      | else-selects w ↦ record {
        done = ap (λ (t : Tlb). t.entries) w.self-is
            ∙ more false (omega arith) before.done c.index-self-i.is w.if-selects.ensures;
        all = before.all;
        place = ap (λ (t : Tlb). t.fill_at) w.self-is ∙ before.place;
      }
    ]
