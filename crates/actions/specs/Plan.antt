-- What each instruction asks for, one line an instruction.
use Rattle.std.specs.Prelude.{ℕ, ◌/◌, ◌%◌, ◌^◌, Bool, true, false, cond}
use Rattle.pages.specs.declared.address.VirtAddr.{VirtAddr}
use Rattle.csr.specs.declared.exception.Exception.TheVariants.{Sys, Brk}
use Rattle.csr.specs.declared.timer.Timer.{Timer}
use Rattle.isa.specs.declared.field.Field.{Field}
use Rattle.isa.specs.declared.register.Reg.{Reg}
use Rattle.isa.specs.declared.instruction.BranchOp.{BranchOp}
use Rattle.isa.specs.declared.instruction.CounterHalf.{CounterHalf}
use Rattle.isa.specs.declared.instruction.CounterHalf.TheVariants.{Low, High}
use Rattle.isa.specs.declared.instruction.Instruction.{Instruction}
use Rattle.isa.specs.declared.instruction.Instruction.TheVariants.{Rdcntid, Rdcntv, Register, Break, Syscall, Shift, Immediate, Csrrd, Csrwr, Csrxchg, Cacop, Tlb, Ertn, Idle, Invtlb, Upper, Ll, Sc, Load, Store, Preld, Dbar, Ibar, Jirl, B, Bl, Branch}
use Rattle.isa.specs.Privilege.{hit}
use Rattle.operations.specs.Operations.{register_result, shift_result, immediate_result, upper_result, taken}
use Rattle.actions.specs.declared.action.Action.{Action}
use Rattle.actions.specs.declared.action.Action.TheVariants as action
use Rattle.actions.specs.declared.action.PrivilegedAction.TheVariants as privileged
use Rattle.actions.specs.declared.user.UserState.{UserState}
use Rattle.actions.specs.Registers.{gr, return_register}
use Rattle.actions.specs.User.{next_pc}
use Rattle.actions.specs.Addresses.{by_si12, by_si14, by_offs16, from_pc}

-- GR[rd] gets a value, and the next instruction follows
abbrev pub result_action : UserState → Reg → ℕ → Action
result_action u rd value = action.Write rd value (next_pc u)

-- GR[rd] gets the address of the next instruction, and the program goes on elsewhere
abbrev pub jump_and_link : UserState → Reg → VirtAddr → Action
jump_and_link u rd next = action.Write rd (next_pc u).0 next

abbrev pub nop : UserState → Action
nop u = action.Go (next_pc u)

abbrev pub counter_half : CounterHalf → ℕ → ℕ
counter_half Low counter = counter % 2 ^ 32
counter_half High counter = counter / 2 ^ 32

abbrev pub branch : UserState → BranchOp → Reg → Reg → Field 16 → Action
branch u op rj rd offs16 = cond (taken op (gr u.general rj) (gr u.general rd)) (action.Go (from_pc 16 u offs16)) (nop u)

abbrev pub csrwr : UserState → Reg → ℕ → Action
csrwr u rd csr = action.Privileged (privileged.Csrwr rd csr (gr u.general rd))

abbrev pub csrxchg : UserState → Reg → Reg → ℕ → Action
csrxchg u rd rj csr = action.Privileged (privileged.Csrxchg rd csr (gr u.general rd) (gr u.general rj))

abbrev pub invtlb : UserState → ℕ → Reg → Reg → Action
invtlb u op rj rk = action.Privileged (privileged.Invtlb op (gr u.general rj) (gr u.general rk))

-- one of the Hit kind translates an address; any other is privileged
abbrev pub cacop : UserState → Field 5 → Reg → Field 12 → Action
cacop u code rj si12 = cond (hit code) (action.Probe (by_si12 u rj si12)) (action.Privileged privileged.Cacop)

abbrev pub plan : UserState → Timer → Instruction → Action
plan u t (Rdcntid rj) = result_action u rj.reg t.tid
plan u t (Rdcntv half rd) = result_action u rd (counter_half half t.counter)
plan u t (Register op rd rj rk) = result_action u rd (register_result op (gr u.general rj) (gr u.general rk))
plan u t (Break code) = action.Raise Brk
plan u t (Syscall code) = action.Raise Sys
plan u t (Shift op rd rj ui5) = result_action u rd (shift_result op (gr u.general rj) ui5)
plan u t (Immediate op rd rj imm12) = result_action u rd (immediate_result op (gr u.general rj) imm12)
plan u t (Csrrd rd csr) = action.Privileged (privileged.Csrrd rd csr.value)
plan u t (Csrwr rd csr) = csrwr u rd csr.value
plan u t (Csrxchg rd rj csr) = csrxchg u rd rj.reg csr.value
plan u t (Cacop code rj si12) = cacop u code rj si12
plan u t (Tlb op) = action.Privileged (privileged.Tlb op)
plan u t Ertn = action.Privileged privileged.Ertn
plan u t (Idle level) = action.Privileged privileged.Idle
plan u t (Invtlb op rj rk) = invtlb u op.value rj rk
plan u t (Upper op rd si20) = result_action u rd (upper_result op u.pc.0 si20)
plan u t (Ll rd rj si14) = action.LoadLinked rd (by_si14 u rj si14)
plan u t (Sc rd rj si14) = action.StoreConditional rd (by_si14 u rj si14) (gr u.general rd)
plan u t (Load op rd rj si12) = action.Load op rd (by_si12 u rj si12)
plan u t (Store op rd rj si12) = action.Store op (by_si12 u rj si12) (gr u.general rd)
plan u t (Preld hint rj si12) = nop u
plan u t (Dbar hint) = nop u
plan u t (Ibar hint) = nop u
plan u t (Jirl rd rj offs16) = jump_and_link u rd (by_offs16 u rj offs16)
plan u t (B offs26) = action.Go (from_pc 26 u offs26)
plan u t (Bl offs26) = jump_and_link u return_register (from_pc 26 u offs26)
plan u t (Branch op rj rd offs16) = branch u op rj rd offs16

abbrev pub is_privileged : Action → Bool
is_privileged (action.Privileged what) = true
is_privileged _ = false
