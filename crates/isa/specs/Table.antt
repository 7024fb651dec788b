-- The table of instruction words: one line a row. The binary number in a line is the row's fixed highest bits.
use Rattle.std.specs.Prelude.{◌≡◌, ℕ, ◌+◌, ◌*◌, ◌/◌, ◌%◌, ◌^◌, ◌<◌, Some, None, Option, ◌≢◌}
use Rattle.isa.specs.declared.instruction.CounterHalf.TheVariants.{Low, High}
use Rattle.isa.specs.declared.instruction.RegisterOp.TheVariants.{AddW, SubW, Slt, Sltu, Nor, And, Or, Xor, SllW, SrlW, SraW, MulW, MulhW, MulhWu, DivW, ModW, DivWu, ModWu}
use Rattle.isa.specs.declared.instruction.ShiftOp.TheVariants.{SlliW, SrliW, SraiW}
use Rattle.isa.specs.declared.instruction.ImmediateOp.TheVariants.{Slti, Sltui, AddiW, Andi, Ori, Xori}
use Rattle.isa.specs.declared.instruction.TlbOp.TheVariants.{Tlbsrch, Tlbrd, Tlbwr, Tlbfill}
use Rattle.isa.specs.declared.instruction.UpperOp.TheVariants.{Lu12iW, Pcaddu12i}
use Rattle.isa.specs.declared.instruction.LoadOp.TheVariants.{LdB, LdH, LdW, LdBu, LdHu}
use Rattle.isa.specs.declared.instruction.StoreOp.TheVariants.{StB, StH, StW}
use Rattle.isa.specs.declared.instruction.BranchOp.TheVariants.{Beq, Bne, Blt, Bge, Bltu, Bgeu}
use Rattle.isa.specs.declared.instruction.Instruction.{Instruction}
use Rattle.isa.specs.declared.instruction.Instruction.TheVariants.{Rdcntid, Rdcntv, Register, Break, Syscall, Shift, Immediate, Csrrd, Csrwr, Csrxchg, Cacop, Tlb, Ertn, Idle, Invtlb, Upper, Ll, Sc, Load, Store, Preld, Dbar, Ibar, Jirl, B, Bl, Branch}

-- the forms of a word: the code of the instruction in its highest bits, then its fields
abbrev pub form_2r : ℕ → ℕ → ℕ → ℕ
form_2r op rj rd = op * 2 ^ 10 + rj * 2 ^ 5 + rd

abbrev pub form_3r : ℕ → ℕ → ℕ → ℕ → ℕ
form_3r op rk rj rd = op * 2 ^ 15 + rk * 2 ^ 10 + rj * 2 ^ 5 + rd

abbrev pub form_i15 : ℕ → ℕ → ℕ
form_i15 op code = op * 2 ^ 15 + code

abbrev pub form_2ri12 : ℕ → ℕ → ℕ → ℕ → ℕ
form_2ri12 op imm rj rd = op * 2 ^ 22 + imm * 2 ^ 10 + rj * 2 ^ 5 + rd

abbrev pub form_2ri14 : ℕ → ℕ → ℕ → ℕ → ℕ
form_2ri14 op imm rj rd = op * 2 ^ 24 + imm * 2 ^ 10 + rj * 2 ^ 5 + rd

abbrev pub form_2ri16 : ℕ → ℕ → ℕ → ℕ → ℕ
form_2ri16 op imm rj rd = op * 2 ^ 26 + imm * 2 ^ 10 + rj * 2 ^ 5 + rd

abbrev pub form_1ri20 : ℕ → ℕ → ℕ → ℕ
form_1ri20 op imm rd = op * 2 ^ 25 + imm * 2 ^ 5 + rd

abbrev pub form_i26 : ℕ → ℕ → ℕ
form_i26 op offset = op * 2 ^ 26 + offset % 2 ^ 16 * 2 ^ 10 + offset / 2 ^ 16

-- The table. 0x00006000 would be the word of RDCNTID.W with rj 0 and of RDCNTVL.W with rd 0; it is the second's, since the rj
-- of RDCNTID.W is from 1 on. That of CSRXCHG is from 2 on.
abbrev pub encode : Instruction → ℕ
encode (Rdcntid rj) = form_2r 0b0000000000000000011000 rj.reg.index 0
encode (Rdcntv Low rd) = form_2r 0b0000000000000000011000 0 rd.index
encode (Rdcntv High rd) = form_2r 0b0000000000000000011001 0 rd.index
encode (Register AddW rd rj rk) = form_3r 0b00000000000100000 rk.index rj.index rd.index
encode (Register SubW rd rj rk) = form_3r 0b00000000000100010 rk.index rj.index rd.index
encode (Register Slt rd rj rk) = form_3r 0b00000000000100100 rk.index rj.index rd.index
encode (Register Sltu rd rj rk) = form_3r 0b00000000000100101 rk.index rj.index rd.index
encode (Register Nor rd rj rk) = form_3r 0b00000000000101000 rk.index rj.index rd.index
encode (Register And rd rj rk) = form_3r 0b00000000000101001 rk.index rj.index rd.index
encode (Register Or rd rj rk) = form_3r 0b00000000000101010 rk.index rj.index rd.index
encode (Register Xor rd rj rk) = form_3r 0b00000000000101011 rk.index rj.index rd.index
encode (Register SllW rd rj rk) = form_3r 0b00000000000101110 rk.index rj.index rd.index
encode (Register SrlW rd rj rk) = form_3r 0b00000000000101111 rk.index rj.index rd.index
encode (Register SraW rd rj rk) = form_3r 0b00000000000110000 rk.index rj.index rd.index
encode (Register MulW rd rj rk) = form_3r 0b00000000000111000 rk.index rj.index rd.index
encode (Register MulhW rd rj rk) = form_3r 0b00000000000111001 rk.index rj.index rd.index
encode (Register MulhWu rd rj rk) = form_3r 0b00000000000111010 rk.index rj.index rd.index
encode (Register DivW rd rj rk) = form_3r 0b00000000001000000 rk.index rj.index rd.index
encode (Register ModW rd rj rk) = form_3r 0b00000000001000001 rk.index rj.index rd.index
encode (Register DivWu rd rj rk) = form_3r 0b00000000001000010 rk.index rj.index rd.index
encode (Register ModWu rd rj rk) = form_3r 0b00000000001000011 rk.index rj.index rd.index
encode (Break code) = form_i15 0b00000000001010100 code.value
encode (Syscall code) = form_i15 0b00000000001010110 code.value
encode (Shift SlliW rd rj ui5) = form_3r 0b00000000010000001 ui5.value rj.index rd.index
encode (Shift SrliW rd rj ui5) = form_3r 0b00000000010001001 ui5.value rj.index rd.index
encode (Shift SraiW rd rj ui5) = form_3r 0b00000000010010001 ui5.value rj.index rd.index
encode (Immediate Slti rd rj imm12) = form_2ri12 0b0000001000 imm12.value rj.index rd.index
encode (Immediate Sltui rd rj imm12) = form_2ri12 0b0000001001 imm12.value rj.index rd.index
encode (Immediate AddiW rd rj imm12) = form_2ri12 0b0000001010 imm12.value rj.index rd.index
encode (Immediate Andi rd rj imm12) = form_2ri12 0b0000001101 imm12.value rj.index rd.index
encode (Immediate Ori rd rj imm12) = form_2ri12 0b0000001110 imm12.value rj.index rd.index
encode (Immediate Xori rd rj imm12) = form_2ri12 0b0000001111 imm12.value rj.index rd.index
encode (Csrrd rd csr) = form_2ri14 0b00000100 csr.value 0 rd.index
encode (Csrwr rd csr) = form_2ri14 0b00000100 csr.value 1 rd.index
encode (Csrxchg rd rj csr) = form_2ri14 0b00000100 csr.value rj.reg.index rd.index
encode (Cacop code rj si12) = form_2ri12 0b0000011000 si12.value rj.index code.value
encode (Tlb Tlbsrch) = 0b00000110010010000010100000000000
encode (Tlb Tlbrd) = 0b00000110010010000010110000000000
encode (Tlb Tlbwr) = 0b00000110010010000011000000000000
encode (Tlb Tlbfill) = 0b00000110010010000011010000000000
encode Ertn = 0b00000110010010000011100000000000
encode (Idle level) = form_i15 0b00000110010010001 level.value
encode (Invtlb op rj rk) = form_3r 0b00000110010010011 rk.index rj.index op.value
encode (Upper Lu12iW rd si20) = form_1ri20 0b0001010 si20.value rd.index
encode (Upper Pcaddu12i rd si20) = form_1ri20 0b0001110 si20.value rd.index
encode (Ll rd rj si14) = form_2ri14 0b00100000 si14.value rj.index rd.index
encode (Sc rd rj si14) = form_2ri14 0b00100001 si14.value rj.index rd.index
encode (Load LdB rd rj si12) = form_2ri12 0b0010100000 si12.value rj.index rd.index
encode (Load LdH rd rj si12) = form_2ri12 0b0010100001 si12.value rj.index rd.index
encode (Load LdW rd rj si12) = form_2ri12 0b0010100010 si12.value rj.index rd.index
encode (Store StB rd rj si12) = form_2ri12 0b0010100100 si12.value rj.index rd.index
encode (Store StH rd rj si12) = form_2ri12 0b0010100101 si12.value rj.index rd.index
encode (Store StW rd rj si12) = form_2ri12 0b0010100110 si12.value rj.index rd.index
encode (Load LdBu rd rj si12) = form_2ri12 0b0010101000 si12.value rj.index rd.index
encode (Load LdHu rd rj si12) = form_2ri12 0b0010101001 si12.value rj.index rd.index
encode (Preld hint rj si12) = form_2ri12 0b0010101011 si12.value rj.index hint.value
encode (Dbar hint) = form_i15 0b00111000011100100 hint.value
encode (Ibar hint) = form_i15 0b00111000011100101 hint.value
encode (Jirl rd rj offs16) = form_2ri16 0b010011 offs16.value rj.index rd.index
encode (B offs26) = form_i26 0b010100 offs26.value
encode (Bl offs26) = form_i26 0b010101 offs26.value
encode (Branch Beq rj rd offs16) = form_2ri16 0b010110 offs16.value rj.index rd.index
encode (Branch Bne rj rd offs16) = form_2ri16 0b010111 offs16.value rj.index rd.index
encode (Branch Blt rj rd offs16) = form_2ri16 0b011000 offs16.value rj.index rd.index
encode (Branch Bge rj rd offs16) = form_2ri16 0b011001 offs16.value rj.index rd.index
encode (Branch Bltu rj rd offs16) = form_2ri16 0b011010 offs16.value rj.index rd.index
encode (Branch Bgeu rj rd offs16) = form_2ri16 0b011011 offs16.value rj.index rd.index

-- What a word is read as: an instruction exactly if the word is that instruction's, and nothing if it is the word of none.
pub record Exact (word : ℕ) (r : Option Instruction) : Type 0 where
  pub sound : (i : Instruction) → r ≡ Some i → encode i ≡ word
  pub complete : (i : Instruction) → encode i ≡ word → r ≡ Some i
  pub undefined : ((i : Instruction) → encode i ≢ word) → r ≡ None
  pub alone : (i j : Instruction) → encode i ≡ word → encode j ≡ word → i ≡ j

-- every instruction has a word of 32 bits
abbrev pub HaveWords : Type 0
HaveWords = (i : Instruction) → encode i < 2 ^ 32
