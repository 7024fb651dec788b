-- The control registers as reset leaves them: DA 1, PS 12, all else 0, and no exception yet, which reads as 0 too.
use Rattle.std.specs.Prelude.{◌≡◌, ℕ, false}
use Rattle.pages.specs.declared.page_size.PageSize.TheVariants.{Small}
use Rattle.pages.specs.declared.privilege.Privilege.TheVariants.{Plv0}
use Rattle.csr.specs.declared.exception.Cause.TheVariants.{Int}
use Rattle.csr.specs.declared.interrupts.Interrupts.{Interrupts}
use Rattle.csr.specs.declared.mode.Mode.{Mode}
use Rattle.csr.specs.declared.mode.TranslationMode.TheVariants.{Direct}
use Rattle.csr.specs.declared.timer.Timer.{Timer}
use Rattle.csr.specs.declared.tlb_registers.TlbRegisters.{TlbRegisters}
use Rattle.csr.specs.Interrupts.{enabled_of}
use Rattle.csr.specs.TlbRegisters.{tlbelo_of}
use Rattle.csr.specs.Window.{dmw_of}
use Rattle.control.specs.declared.number.Csr.{Csr}
use Rattle.control.specs.declared.number.Csr.TheVariants.{Crmd, Tlbidx, Asid}
use Rattle.control.specs.declared.registers.Registers.{Registers}
use Rattle.control.specs.Registers.{read_of}

abbrev pub reset_mode : Mode
reset_mode = record { plv = Plv0; ie = false; translation = Direct; datf = 0; datm = 0; asid = 0 }

abbrev pub reset_interrupts : Interrupts
reset_interrupts = record { pending = record { swi = 0; hwi = 0; ti = false }; enabled = enabled_of 0 }

abbrev pub reset_tlb_registers : TlbRegisters
reset_tlb_registers = record { index = 0; ps = Small; ne = false; vppn = 0; elo0 = tlbelo_of 0; elo1 = tlbelo_of 0 }

abbrev pub reset_timer : Timer
reset_timer = record { counter = 0; tid = 0; en = false; periodic = false; init_val = 0; tval = 0 }

abbrev pub reset_registers : Registers
reset_registers = record {
  mode = reset_mode;
  previous = record { pplv = Plv0; pie = false };
  interrupts = reset_interrupts;
  cause = Int;
  era = record { 0 = 0 };
  badv = record { 0 = 0 };
  eentry = 0;
  tlbrentry = 0;
  tlb_registers = reset_tlb_registers;
  pgdl = record { 0 = 0 };
  pgdh = record { 0 = 0 };
  save0 = 0;
  save1 = 0;
  save2 = 0;
  save3 = 0;
  timer = reset_timer;
  windows = record { dmw0 = dmw_of 0; dmw1 = dmw_of 0 };
  link = false;
}

-- how that reads: DA, a PS of 12, and ASIDBITS
abbrev pub reset_word : Csr → ℕ
reset_word Crmd = 0x8
reset_word Tlbidx = 0x0c000000
reset_word Asid = 0x000a0000
reset_word _ = 0

abbrev pub ReadsAsReset : Registers → Type 0
ReadsAsReset r = (csr : Csr) → read_of r csr ≡ reset_word csr
