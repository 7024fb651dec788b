-- What PLV0 alone may do.
use Rattle.std.specs.Prelude.{ℕ, ◌%◌, ◌^◌, Some, None, Option}
use Rattle.isa.specs.declared.register.Reg.{Reg}
use Rattle.isa.specs.declared.instruction.TlbOp.{TlbOp}
use Rattle.isa.specs.declared.instruction.TlbOp.TheVariants.{Tlbsrch, Tlbrd, Tlbwr, Tlbfill}
use Rattle.pages.specs.declared.privilege.Privilege.{Privilege}
use Rattle.pages.specs.declared.privilege.Privilege.TheVariants.{Plv0, Plv3}
use Rattle.tlb.specs.declared.invalidation.Invalidation.{Invalidation}
use Rattle.tlb.specs.Invalidating.{numbered, invalidated}
use Rattle.tlb.specs.Searching as tlb
use Rattle.csr.specs.declared.exception.Exception.TheVariants.{Ine, Ipe}
use Rattle.control.specs.declared.number.Csr.{Csr}
use Rattle.control.specs.Numbers.{csr_numbered}
use Rattle.control.specs.Instructions.{csrrd, csrwr, csrxchg}
use Rattle.control.specs.TlbInstructions.{entry_to_write, tlbsrch, tlbrd}
use Rattle.control.specs.Exceptions.{returned}
use Rattle.actions.specs.declared.action.PrivilegedAction.{PrivilegedAction}
use Rattle.actions.specs.declared.action.PrivilegedAction.TheVariants.{Csrrd, Csrwr, Csrxchg, Tlb, Invtlb, Ertn, Idle, Cacop}
use Rattle.actions.specs.User.{virtual, with_pc}
use Rattle.machine.specs.declared.state.Activity.TheVariants.{Waiting}
use Rattle.machine.specs.declared.state.State.{State}
use Rattle.machine.specs.State.{advanced, with_result}
use Rattle.machine.specs.Outcomes.{Settled, done, raise}

-- GR[rd] gets what the register read before
abbrev pub csr_read : State → Reg → Option Csr → State
csr_read s rd csr = with_result s rd (csrrd s.registers csr)

abbrev pub csr_written : State → Reg → Option Csr → ℕ → State
csr_written s rd csr value = with_result (record s { registers = csrwr s.registers csr value }) rd (csrrd s.registers csr)

abbrev pub csr_exchanged : State → Reg → Option Csr → ℕ → ℕ → State
csr_exchanged s rd csr value mask = with_result (record s { registers = csrxchg s.registers csr value mask }) rd (csrrd s.registers csr)

abbrev pub tlb_done : State → TlbOp → State
tlb_done s Tlbsrch = advanced (record s { registers = tlbsrch s.registers s.tlb })
tlb_done s Tlbrd = advanced (record s { registers = tlbrd s.registers (tlb.entry s.tlb s.registers.tlb_registers.index) })
tlb_done s Tlbwr = advanced (record s { tlb = tlb.written s.registers.tlb_registers.index (entry_to_write s.registers) s.tlb })
tlb_done s Tlbfill = advanced (record s { tlb = tlb.filled (entry_to_write s.registers) s.tlb })

-- INVTLB: an op that names no invalidation is INE
abbrev pub invalidate : State → Option Invalidation → Settled
invalidate s None = raise s Ine
invalidate s (Some which) = done (advanced (record s { tlb = invalidated which s.tlb }))

-- ERTN: the program goes on at ERA
abbrev pub ertn : State → State
ertn s = record s { user = with_pc s.user s.registers.era; registers = returned s.registers }

-- IDLE: the next instruction follows, once an interrupt is due
abbrev pub idle : State → State
idle s = advanced (record s { activity = Waiting })

abbrev pub supervise : State → PrivilegedAction → Settled
supervise s (Csrrd rd csr) = done (csr_read s rd (csr_numbered csr))
supervise s (Csrwr rd csr value) = done (csr_written s rd (csr_numbered csr) value)
supervise s (Csrxchg rd csr value mask) = done (csr_exchanged s rd (csr_numbered csr) value mask)
supervise s (Tlb op) = done (tlb_done s op)
supervise s (Invtlb op asid_word address) = invalidate s (numbered op (asid_word % 2 ^ 10) (virtual address))
supervise s Ertn = done (ertn s)
supervise s Idle = done (idle s)
supervise s Cacop = done (advanced s)

-- the one place where an action's privilege is tested; that of a page is tested in translation
abbrev pub by_privilege : Privilege → State → PrivilegedAction → Settled
by_privilege Plv0 s action = supervise s action
by_privilege Plv3 s action = raise s Ipe
