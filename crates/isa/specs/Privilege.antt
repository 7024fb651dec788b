-- Which instructions raise the exception IPE in PLV3.
use Rattle.std.specs.Prelude.{◌/◌, ◌^◌, Bool, true, false, not, ◌==◌}
use Rattle.isa.specs.declared.field.Field.{Field}
use Rattle.isa.specs.declared.instruction.Instruction.{Instruction}
use Rattle.isa.specs.declared.instruction.Instruction.TheVariants.{Rdcntid, Rdcntv, Register, Break, Syscall, Shift, Immediate, Csrrd, Csrwr, Csrxchg, Cacop, Tlb, Ertn, Idle, Invtlb, Upper, Ll, Sc, Load, Store, Preld, Dbar, Ibar, Jirl, B, Bl, Branch}

-- the Hit kind of CACOP: code[4:3] is 2
abbrev pub hit : Field 5 → Bool
hit code = code.value / 2 ^ 3 == 2

abbrev pub privileged : Instruction → Bool
privileged (Rdcntid rj) = false
privileged (Rdcntv half rd) = false
privileged (Register op rd rj rk) = false
privileged (Break code) = false
privileged (Syscall code) = false
privileged (Shift op rd rj ui5) = false
privileged (Immediate op rd rj imm12) = false
privileged (Csrrd rd csr) = true
privileged (Csrwr rd csr) = true
privileged (Csrxchg rd rj csr) = true
privileged (Cacop code rj si12) = not (hit code)
privileged (Tlb op) = true
privileged Ertn = true
privileged (Idle level) = true
privileged (Invtlb op rj rk) = true
privileged (Upper op rd si20) = false
privileged (Ll rd rj si14) = false
privileged (Sc rd rj si14) = false
privileged (Load op rd rj si12) = false
privileged (Store op rd rj si12) = false
privileged (Preld hint rj si12) = false
privileged (Dbar hint) = false
privileged (Ibar hint) = false
privileged (Jirl rd rj offs16) = false
privileged (B offs26) = false
privileged (Bl offs26) = false
privileged (Branch op rj rd offs16) = false
