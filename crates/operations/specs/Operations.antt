-- What each operation gives, one line an instruction.
use Rattle.std.specs.Prelude.{ℕ, Bool, cond, not, ◌==◌, bit_and, bit_or, bit_xor}
use Rattle.isa.specs.declared.field.Field.{Field}
use Rattle.isa.specs.declared.instruction.RegisterOp.{RegisterOp}
use Rattle.isa.specs.declared.instruction.RegisterOp.TheVariants.{AddW, SubW, Slt, Sltu, Nor, And, Or, Xor, SllW, SrlW, SraW, MulW, MulhW, MulhWu, DivW, ModW, DivWu, ModWu}
use Rattle.isa.specs.declared.instruction.ShiftOp.{ShiftOp}
use Rattle.isa.specs.declared.instruction.ShiftOp.TheVariants.{SlliW, SrliW, SraiW}
use Rattle.isa.specs.declared.instruction.ImmediateOp.{ImmediateOp}
use Rattle.isa.specs.declared.instruction.ImmediateOp.TheVariants.{Slti, Sltui, AddiW, Andi, Ori, Xori}
use Rattle.isa.specs.declared.instruction.UpperOp.{UpperOp}
use Rattle.isa.specs.declared.instruction.UpperOp.TheVariants.{Lu12iW, Pcaddu12i}
use Rattle.isa.specs.declared.instruction.LoadOp.{LoadOp}
use Rattle.isa.specs.declared.instruction.LoadOp.TheVariants.{LdB, LdH, LdW, LdBu, LdHu}
use Rattle.isa.specs.declared.instruction.StoreOp.{StoreOp}
use Rattle.isa.specs.declared.instruction.StoreOp.TheVariants.{StB, StH, StW}
use Rattle.isa.specs.declared.instruction.BranchOp.{BranchOp}
use Rattle.isa.specs.declared.instruction.BranchOp.TheVariants.{Beq, Bne, Blt, Bge, Bltu, Bgeu}
use Rattle.word.specs.Word.{word_sum, word_difference, less_signed, less_unsigned, nor, shift_left, shift_right, shift_right_signed, product_low, product_high_signed, product_high_unsigned, quotient_signed, remainder_signed, quotient_unsigned, remainder_unsigned, sign_extend, zero_extend, upper20}

-- of GR[rj] and GR[rk]
abbrev pub register_result : RegisterOp → ℕ → ℕ → ℕ
register_result AddW a b = word_sum a b
register_result SubW a b = word_difference a b
register_result Slt a b = cond (less_signed a b) 1 0
register_result Sltu a b = cond (less_unsigned a b) 1 0
register_result Nor a b = nor a b
register_result And a b = bit_and a b
register_result Or a b = bit_or a b
register_result Xor a b = bit_xor a b
register_result SllW a b = shift_left a b
register_result SrlW a b = shift_right a b
register_result SraW a b = shift_right_signed a b
register_result MulW a b = product_low a b
register_result MulhW a b = product_high_signed a b
register_result MulhWu a b = product_high_unsigned a b
register_result DivW a b = quotient_signed a b
register_result ModW a b = remainder_signed a b
register_result DivWu a b = quotient_unsigned a b
register_result ModWu a b = remainder_unsigned a b

-- of GR[rj] and ui5
abbrev pub shift_result : ShiftOp → ℕ → Field 5 → ℕ
shift_result SlliW a ui5 = shift_left a ui5.value
shift_result SrliW a ui5 = shift_right a ui5.value
shift_result SraiW a ui5 = shift_right_signed a ui5.value

-- of GR[rj] and si12 or ui12; SLTUI compares as unsigned what it has sign-extended
abbrev pub immediate_result : ImmediateOp → ℕ → Field 12 → ℕ
immediate_result Slti a imm12 = cond (less_signed a (sign_extend 12 imm12.value)) 1 0
immediate_result Sltui a imm12 = cond (less_unsigned a (sign_extend 12 imm12.value)) 1 0
immediate_result AddiW a imm12 = word_sum a (sign_extend 12 imm12.value)
immediate_result Andi a imm12 = bit_and a (zero_extend 12 imm12.value)
immediate_result Ori a imm12 = bit_or a (zero_extend 12 imm12.value)
immediate_result Xori a imm12 = bit_xor a (zero_extend 12 imm12.value)

-- of PC and si20
abbrev pub upper_result : UpperOp → ℕ → Field 20 → ℕ
upper_result Lu12iW pc si20 = upper20 si20.value
upper_result Pcaddu12i pc si20 = word_sum pc (upper20 si20.value)

-- whether the branch is taken, of GR[rj] and GR[rd]
abbrev pub taken : BranchOp → ℕ → ℕ → Bool
taken Beq a b = a == b
taken Bne a b = not (a == b)
taken Blt a b = less_signed a b
taken Bge a b = not (less_signed a b)
taken Bltu a b = less_unsigned a b
taken Bgeu a b = not (less_unsigned a b)

-- how many bytes are loaded, and what the register gets of their value
abbrev pub load_width : LoadOp → ℕ
load_width LdB = 1
load_width LdH = 2
load_width LdW = 4
load_width LdBu = 1
load_width LdHu = 2

abbrev pub load_result : LoadOp → ℕ → ℕ
load_result LdB value = sign_extend 8 value
load_result LdH value = sign_extend 16 value
load_result LdW value = value
load_result LdBu value = zero_extend 8 value
load_result LdHu value = zero_extend 16 value

-- how many bytes are stored
abbrev pub store_width : StoreOp → ℕ
store_width StB = 1
store_width StH = 2
store_width StW = 4
