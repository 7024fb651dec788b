-- Instructions in the manual's assembly form: the mnemonic, then the operands, with a comma and a blank between two. Offsets of jumps, branches,
-- LL.W and SC.W are in bytes.
use Rattle.std.specs.Prelude.{ℕ, ◌/◌, ◌%◌, true, List, [], ◌∷◌, ◌++◌, codes, decimal}
use Rattle.std.specs.Fmt.{digit_glyph, signed_decimal}
use Rattle.word.specs.Word.{signed_bits, signed_bits_times4}
use Rattle.isa.specs.declared.field.Field.{Field}
use Rattle.isa.specs.declared.instruction.ImmediateOp.{ImmediateOp}
use Rattle.isa.specs.declared.instruction.ImmediateOp.TheVariants.{Slti, Sltui, AddiW, Andi, Ori, Xori}
use Rattle.isa.specs.declared.instruction.Instruction.{Instruction}
use Rattle.isa.specs.declared.instruction.Instruction.TheVariants.{Rdcntid, Rdcntv, Register, Break, Syscall, Shift, Immediate, Csrrd, Csrwr, Csrxchg, Cacop, Tlb, Ertn, Idle, Invtlb, Upper, Ll, Sc, Load, Store, Preld, Dbar, Ibar, Jirl, B, Bl, Branch}
use Rattle.assembly.specs.declared.line.Operand.{Operand}
use Rattle.assembly.specs.declared.line.Operand.TheVariants.{Gpr, Signed, Unsigned, Csr}
use Rattle.assembly.specs.declared.line.Operands.{Operands}
use Rattle.assembly.specs.declared.line.Operands.TheVariants.{None, One, Two, Three}
use Rattle.assembly.specs.Names.{counter_name, register_name, shift_name, immediate_name, tlb_name, upper_name, load_name, store_name, branch_name}

-- a signed field; and one that counts words, as a number of bytes
abbrev pub signed_field : (k : ℕ) → Field k → Operand
signed_field k f = Signed (signed_bits k f.value)

abbrev pub words_field : (k : ℕ) → Field k → Operand
words_field k f = Signed (signed_bits_times4 k f.value)

-- si12 or ui12
abbrev pub immediate_operand : ImmediateOp → Field 12 → Operand
immediate_operand Slti imm12 = signed_field 12 imm12
immediate_operand Sltui imm12 = signed_field 12 imm12
immediate_operand AddiW imm12 = signed_field 12 imm12
immediate_operand Andi imm12 = Unsigned imm12.value
immediate_operand Ori imm12 = Unsigned imm12.value
immediate_operand Xori imm12 = Unsigned imm12.value

-- mnemonic and operands
abbrev pub line_of : Instruction → List ℕ × Operands
line_of (Rdcntid rj) = (codes "rdcntid.w", One (Gpr rj.reg))
line_of (Rdcntv half rd) = (counter_name half, One (Gpr rd))
line_of (Register op rd rj rk) = (register_name op, Three (Gpr rd) (Gpr rj) (Gpr rk))
line_of (Break code) = (codes "break", One (Unsigned code.value))
line_of (Syscall code) = (codes "syscall", One (Unsigned code.value))
line_of (Shift op rd rj ui5) = (shift_name op, Three (Gpr rd) (Gpr rj) (Unsigned ui5.value))
line_of (Immediate op rd rj imm12) = (immediate_name op, Three (Gpr rd) (Gpr rj) (immediate_operand op imm12))
line_of (Csrrd rd csr) = (codes "csrrd", Two (Gpr rd) (Csr csr))
line_of (Csrwr rd csr) = (codes "csrwr", Two (Gpr rd) (Csr csr))
line_of (Csrxchg rd rj csr) = (codes "csrxchg", Three (Gpr rd) (Gpr rj.reg) (Csr csr))
line_of (Cacop code rj si12) = (codes "cacop", Three (Unsigned code.value) (Gpr rj) (signed_field 12 si12))
line_of (Tlb op) = (tlb_name op, None)
line_of Ertn = (codes "ertn", None)
line_of (Idle level) = (codes "idle", One (Unsigned level.value))
line_of (Invtlb op rj rk) = (codes "invtlb", Three (Unsigned op.value) (Gpr rj) (Gpr rk))
line_of (Upper op rd si20) = (upper_name op, Two (Gpr rd) (signed_field 20 si20))
line_of (Ll rd rj si14) = (codes "ll.w", Three (Gpr rd) (Gpr rj) (words_field 14 si14))
line_of (Sc rd rj si14) = (codes "sc.w", Three (Gpr rd) (Gpr rj) (words_field 14 si14))
line_of (Load op rd rj si12) = (load_name op, Three (Gpr rd) (Gpr rj) (signed_field 12 si12))
line_of (Store op rd rj si12) = (store_name op, Three (Gpr rd) (Gpr rj) (signed_field 12 si12))
line_of (Preld hint rj si12) = (codes "preld", Three (Unsigned hint.value) (Gpr rj) (signed_field 12 si12))
line_of (Dbar hint) = (codes "dbar", One (Unsigned hint.value))
line_of (Ibar hint) = (codes "ibar", One (Unsigned hint.value))
line_of (Jirl rd rj offs16) = (codes "jirl", Three (Gpr rd) (Gpr rj) (words_field 16 offs16))
line_of (B offs26) = (codes "b", One (words_field 26 offs26))
line_of (Bl offs26) = (codes "bl", One (words_field 26 offs26))
line_of (Branch op rj rd offs16) = (branch_name op, Three (Gpr rj) (Gpr rd) (words_field 16 offs16))

-- how an operand is written
abbrev pub operand_text : Operand → List ℕ
operand_text (Gpr r) = codes "r" ++ decimal r.index
operand_text (Signed z) = signed_decimal z
operand_text (Unsigned n) = decimal n
operand_text (Csr n) = codes "0x" ++ (digit_glyph true (n.value / 4096 % 16) ∷ digit_glyph true (n.value / 256 % 16) ∷ digit_glyph true (n.value / 16 % 16) ∷ digit_glyph true (n.value % 16) ∷ [])

abbrev pub operands_text : Operands → List ℕ
operands_text None = []
operands_text (One a) = codes " " ++ operand_text a
operands_text (Two a b) = codes " " ++ (operand_text a ++ (codes ", " ++ operand_text b))
operands_text (Three a b c) = codes " " ++ (operand_text a ++ (codes ", " ++ (operand_text b ++ (codes ", " ++ operand_text c))))

abbrev pub assembly : Instruction → List ℕ
assembly i = (line_of i).0 ++ operands_text (line_of i).1
