-- What a read of each control register gives, and what a write of it leaves.
use Rattle.std.specs.Prelude.{ℕ, ◌+◌, ◌*◌, ◌/◌, ◌^◌, Bool, false, cond, ◌==◌}
use Rattle.pages.specs.declared.address.Frame.{Frame}
use Rattle.csr.specs.declared.interrupts.Interrupts.{Interrupts}
use Rattle.csr.specs.Words.{bit, flag, field}
use Rattle.csr.specs.Exceptions.{ecode, esubcode}
use Rattle.csr.specs.Mode.{crmd, with_crmd, asid_word, with_asid, prmd, with_prmd}
use Rattle.csr.specs.Interrupts.{pending_bits, with_swi, enabled_bits, enabled_of}
use Rattle.csr.specs.Timer.{tcfg, with_tcfg}
use Rattle.csr.specs.Window.{dmw, dmw_of}
use Rattle.csr.specs.TlbRegisters.{tlbelo, tlbelo_of, tlbidx, with_tlbidx, tlbehi, with_tlbehi}
use Rattle.control.specs.declared.number.Csr.{Csr}
use Rattle.control.specs.declared.number.Csr.TheVariants.{Crmd, Prmd, Euen, Ecfg, Estat, Era, Badv, Eentry, Tlbidx, Tlbehi, Tlbelo0, Tlbelo1, Asid, Pgdl, Pgdh, Pgd, Cpuid, Save0, Save1, Save2, Save3, Tid, Tcfg, Tval, Ticlr, Llbctl, Tlbrentry, Ctag, Dmw0, Dmw1}
use Rattle.control.specs.declared.registers.Registers.{Registers}

-- PGDL if BADV's highest bit is 0, else PGDH
abbrev pub pgd : Registers → Frame
pgd r = cond (r.badv.0 / 2 ^ 31 == 0) r.pgdl r.pgdh

-- IS 12:0, Ecode 21:16, EsubCode 30:22
abbrev pub estat : Registers → ℕ
estat r = pending_bits r.interrupts.pending + ecode r.cause * 2 ^ 16 + esubcode r.cause * 2 ^ 22

abbrev pub read_of : Registers → Csr → ℕ
read_of r Crmd = crmd r.mode
read_of r Prmd = prmd r.previous
read_of r Euen = 0
read_of r Ecfg = enabled_bits r.interrupts.enabled
read_of r Estat = estat r
read_of r Era = r.era.0
read_of r Badv = r.badv.0
read_of r Eentry = r.eentry * 2 ^ 6
read_of r Tlbidx = tlbidx r.tlb_registers
read_of r Tlbehi = tlbehi r.tlb_registers
read_of r Tlbelo0 = tlbelo r.tlb_registers.elo0
read_of r Tlbelo1 = tlbelo r.tlb_registers.elo1
read_of r Asid = asid_word r.mode
read_of r Pgdl = r.pgdl.0 * 2 ^ 12
read_of r Pgdh = r.pgdh.0 * 2 ^ 12
read_of r Pgd = (pgd r).0 * 2 ^ 12
read_of r Cpuid = 0
read_of r Save0 = r.save0
read_of r Save1 = r.save1
read_of r Save2 = r.save2
read_of r Save3 = r.save3
read_of r Tid = r.timer.tid
read_of r Tcfg = tcfg r.timer
read_of r Tval = r.timer.tval
read_of r Ticlr = 0
read_of r Llbctl = bit r.link
read_of r Tlbrentry = r.tlbrentry * 2 ^ 6
read_of r Ctag = 0
read_of r Dmw0 = dmw r.windows.dmw0
read_of r Dmw1 = dmw r.windows.dmw1

abbrev pub with_ti : Interrupts → Bool → Interrupts
with_ti i ti = record i { pending = record i.pending { ti = ti } }

-- writing 1 to CLR clears the timer's interrupt
abbrev pub with_ticlr : Registers → ℕ → Registers
with_ticlr r word = record r { interrupts = with_ti r.interrupts (cond (flag word 0) false r.interrupts.pending.ti) }

-- writing 1 to WCLLB clears the link
abbrev pub with_llbctl : Registers → ℕ → Registers
with_llbctl r word = record r { link = cond (flag word 1) false r.link }

abbrev pub written : Registers → Csr → ℕ → Registers
written r Crmd word = record r { mode = with_crmd r.mode word }
written r Prmd word = record r { previous = with_prmd r.previous word }
written r Euen word = r
written r Ecfg word = record r { interrupts = record r.interrupts { enabled = enabled_of word } }
written r Estat word = record r { interrupts = record r.interrupts { pending = with_swi r.interrupts.pending word } }
written r Era word = record r { era = record { 0 = word } }
written r Badv word = record r { badv = record { 0 = word } }
written r Eentry word = record r { eentry = field word 6 26 }
written r Tlbidx word = record r { tlb_registers = with_tlbidx r.tlb_registers word }
written r Tlbehi word = record r { tlb_registers = with_tlbehi r.tlb_registers word }
written r Tlbelo0 word = record r { tlb_registers = record r.tlb_registers { elo0 = tlbelo_of word } }
written r Tlbelo1 word = record r { tlb_registers = record r.tlb_registers { elo1 = tlbelo_of word } }
written r Asid word = record r { mode = with_asid r.mode word }
written r Pgdl word = record r { pgdl = record { 0 = field word 12 20 } }
written r Pgdh word = record r { pgdh = record { 0 = field word 12 20 } }
written r Pgd word = r
written r Cpuid word = r
written r Save0 word = record r { save0 = word }
written r Save1 word = record r { save1 = word }
written r Save2 word = record r { save2 = word }
written r Save3 word = record r { save3 = word }
written r Tid word = record r { timer = record r.timer { tid = word } }
written r Tcfg word = record r { timer = with_tcfg r.timer word }
written r Tval word = r
written r Ticlr word = with_ticlr r word
written r Llbctl word = with_llbctl r word
written r Tlbrentry word = record r { tlbrentry = field word 6 26 }
written r Ctag word = r
written r Dmw0 word = record r { windows = record r.windows { dmw0 = dmw_of word } }
written r Dmw1 word = record r { windows = record r.windows { dmw1 = dmw_of word } }
