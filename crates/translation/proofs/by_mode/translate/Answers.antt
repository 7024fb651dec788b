-- The laws are the definition's, and the result is what the definition gives.
use Rattle.std.proofs.Common.{Ok, sym, ap, ◌∙◌}
use Rattle.translation.proofs.Ways.{goes_direct}
use Rattle.translation.proofs.AllLaws.{lawful, lawful_mapped}
use Rattle.translation.proofs.by_mode.translate.Goals as goal

pub returns-in-Direct-clause-loads : goal.returns-in-Direct-clause-loads
returns-in-Direct-clause-loads c =
    let a = c.args in
    (lawful a.mode.now a.windows.now a.tlb.now a.kind a.at.0 (Ok c.direct.result)
    (ap Ok c.direct.ensures ∙ sym (goes_direct a.mode.now a.windows.now a.tlb.now a.kind a.at.0 c.in-Direct.is))).loads

pub returns-in-Mapped-clause-offset : goal.returns-in-Mapped-clause-offset
returns-in-Mapped-clause-offset c =
    let a = c.args in
    (lawful_mapped a.mode.now a.windows.now a.tlb.now a.kind a.at.0 c.mapped.result c.in-Mapped.is c.mapped.ensures).offset

pub returns-in-Mapped-clause-lies : goal.returns-in-Mapped-clause-lies
returns-in-Mapped-clause-lies c =
    let a = c.args in
    (lawful_mapped a.mode.now a.windows.now a.tlb.now a.kind a.at.0 c.mapped.result c.in-Mapped.is c.mapped.ensures).lies

pub returns-in-Mapped-clause-loads : goal.returns-in-Mapped-clause-loads
returns-in-Mapped-clause-loads c =
    let a = c.args in
    (lawful_mapped a.mode.now a.windows.now a.tlb.now a.kind a.at.0 c.mapped.result c.in-Mapped.is c.mapped.ensures).loads

pub returns-in-Mapped-clause-whole_page : goal.returns-in-Mapped-clause-whole_page
returns-in-Mapped-clause-whole_page c =
    let a = c.args in
    (lawful_mapped a.mode.now a.windows.now a.tlb.now a.kind a.at.0 c.mapped.result c.in-Mapped.is c.mapped.ensures).whole_page
