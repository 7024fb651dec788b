-- What an exception, a return, the lines' levels and the beat do to the control registers.
use Rattle.std.specs.Prelude.{ℕ, Bool, true, false, cond, ◌&&◌, unwrap_or}
use Rattle.pages.specs.declared.address.VirtAddr.{VirtAddr}
use Rattle.csr.specs.declared.exception.Cause.{Cause}
use Rattle.csr.specs.declared.exception.Exception.{Exception}
use Rattle.csr.specs.declared.interrupts.Interrupts.{Interrupts}
use Rattle.csr.specs.Exceptions.{is_refill, cause_of, bad_address, faulting_page}
use Rattle.csr.specs.Mode.{handler_mode, returned_mode}
use Rattle.csr.specs.Interrupts.{due}
use Rattle.csr.specs.Timer.{after_beat, runs_out}
use Rattle.control.specs.declared.registers.Registers.{Registers}
use Rattle.control.specs.declared.number.Csr.TheVariants.{Eentry, Tlbrentry}
use Rattle.control.specs.Registers.{read_of, with_ti}

-- a refill's handler is at TLBRENTRY, any other's at EENTRY
abbrev pub handler : Registers → Cause → VirtAddr
handler r cause = record { 0 = cond (is_refill cause) (read_of r Tlbrentry) (read_of r Eentry) }

abbrev pub raised : Registers → Exception → VirtAddr → Registers
raised r exception pc = record r {
  previous = record { pplv = r.mode.plv; pie = r.mode.ie };
  mode = handler_mode r.mode (cause_of exception);
  cause = cause_of exception;
  era = pc;
  badv = unwrap_or (bad_address exception pc) r.badv;
  tlb_registers = record r.tlb_registers { vppn = unwrap_or (faulting_page exception) r.tlb_registers.vppn };
}

-- ERTN
abbrev pub returned : Registers → Registers
returned r = record r { mode = returned_mode r.mode r.previous r.cause; link = false }

abbrev pub with_hwi : Interrupts → ℕ → Interrupts
with_hwi i levels = record i { pending = record i.pending { hwi = levels } }

-- the levels of the eight lines go to IS[9:2]
abbrev pub with_levels : Registers → ℕ → Registers
with_levels r levels = record r { interrupts = with_hwi r.interrupts levels }

-- an interrupt is taken if one is due and IE is 1
abbrev pub interrupted : Registers → Bool
interrupted r = r.mode.ie && due r.interrupts

-- a timer that runs out sets IS[11]
abbrev pub registers_after_beat : Registers → Registers
registers_after_beat r = record r {
  timer = after_beat r.timer;
  interrupts = with_ti r.interrupts (cond (runs_out r.timer) true r.interrupts.pending.ti);
}
