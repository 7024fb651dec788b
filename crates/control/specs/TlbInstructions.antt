-- What the TLB's instructions read of the registers and leave in them.
use Rattle.std.specs.Prelude.{ℕ, true, false, cond, not, ◌&&◌, ◌||◌, Option, Some, None}
use Rattle.tlb.specs.declared.entry.Entry.{Entry}
use Rattle.tlb.specs.declared.table.Tlb.{Tlb}
use Rattle.tlb.specs.Searching.{find}
use Rattle.csr.specs.declared.tlb_registers.TlbRegisters.{TlbRegisters}
use Rattle.csr.specs.Exceptions.{is_refill}
use Rattle.csr.specs.TlbRegisters.{tlbehi}
use Rattle.control.specs.declared.registers.Registers.{Registers}

-- TLBWR and TLBFILL: E is 1 if NE is 0 or a refill is being handled, G if both G are 1
abbrev pub entry_to_write : Registers → Entry
entry_to_write r = record {
  exists = not r.tlb_registers.ne || is_refill r.cause;
  asid = r.mode.asid;
  global = r.tlb_registers.elo0.global && r.tlb_registers.elo1.global;
  page_size = r.tlb_registers.ps;
  vppn = r.tlb_registers.vppn;
  even = r.tlb_registers.elo0.half;
  odd = r.tlb_registers.elo1.half;
}

-- TLBSRCH: the first entry that fits gives Index and NE 0; if none does, NE is 1 and Index stays
abbrev pub tlb_found : TlbRegisters → Option ℕ → TlbRegisters
tlb_found t (Some i) = record t { index = i; ne = false }
tlb_found t None = record t { ne = true }

abbrev pub tlbsrch : Registers → Tlb → Registers
tlbsrch r tlb = record r { tlb_registers = tlb_found r.tlb_registers (find tlb (tlbehi r.tlb_registers) r.mode.asid) }

-- TLBRD: an entry that exists gives its pages, their size and NE 0; an empty one sets NE and nothing else
abbrev pub tlb_read : TlbRegisters → Entry → TlbRegisters
tlb_read t e = cond e.exists
    (record {
      index = t.index;
      ps = e.page_size;
      ne = false;
      vppn = e.vppn;
      elo0 = record { half = e.even; global = e.global };
      elo1 = record { half = e.odd; global = e.global };
    })
    (record t { ne = true })

abbrev pub tlbrd : Registers → Entry → Registers
tlbrd r e = record r { tlb_registers = tlb_read r.tlb_registers e }
