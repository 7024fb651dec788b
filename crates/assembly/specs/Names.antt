-- The mnemonics of the operations that share a form.
use Rattle.std.specs.Prelude.{ℕ, List, codes}
use Rattle.isa.specs.declared.instruction.CounterHalf.{CounterHalf}
use Rattle.isa.specs.declared.instruction.CounterHalf.TheVariants.{Low, High}
use Rattle.isa.specs.declared.instruction.RegisterOp.{RegisterOp}
use Rattle.isa.specs.declared.instruction.RegisterOp.TheVariants.{AddW, SubW, Slt, Sltu, Nor, And, Or, Xor, SllW, SrlW, SraW, MulW, MulhW, MulhWu, DivW, ModW, DivWu, ModWu}
use Rattle.isa.specs.declared.instruction.ShiftOp.{ShiftOp}
use Rattle.isa.specs.declared.instruction.ShiftOp.TheVariants.{SlliW, SrliW, SraiW}
use Rattle.isa.specs.declared.instruction.ImmediateOp.{ImmediateOp}
use Rattle.isa.specs.declared.instruction.ImmediateOp.TheVariants.{Slti, Sltui, AddiW, Andi, Ori, Xori}
use Rattle.isa.specs.declared.instruction.TlbOp.{TlbOp}
use Rattle.isa.specs.declared.instruction.TlbOp.TheVariants.{Tlbsrch, Tlbrd, Tlbwr, Tlbfill}
use Rattle.isa.specs.declared.instruction.UpperOp.{UpperOp}
use Rattle.isa.specs.declared.instruction.UpperOp.TheVariants.{Lu12iW, Pcaddu12i}
use Rattle.isa.specs.declared.instruction.LoadOp.{LoadOp}
use Rattle.isa.specs.declared.instruction.LoadOp.TheVariants.{LdB, LdH, LdW, LdBu, LdHu}
use Rattle.isa.specs.declared.instruction.StoreOp.{StoreOp}
use Rattle.isa.specs.declared.instruction.StoreOp.TheVariants.{StB, StH, StW}
use Rattle.isa.specs.declared.instruction.BranchOp.{BranchOp}
use Rattle.isa.specs.declared.instruction.BranchOp.TheVariants.{Beq, Bne, Blt, Bge, Bltu, Bgeu}

abbrev pub counter_name : CounterHalf → List ℕ
counter_name Low = codes "rdcntvl.w"
counter_name High = codes "rdcntvh.w"

abbrev pub register_name : RegisterOp → List ℕ
register_name AddW = codes "add.w"
register_name SubW = codes "sub.w"
register_name Slt = codes "slt"
register_name Sltu = codes "sltu"
register_name Nor = codes "nor"
register_name And = codes "and"
register_name Or = codes "or"
register_name Xor = codes "xor"
register_name SllW = codes "sll.w"
register_name SrlW = codes "srl.w"
register_name SraW = codes "sra.w"
register_name MulW = codes "mul.w"
register_name MulhW = codes "mulh.w"
register_name MulhWu = codes "mulh.wu"
register_name DivW = codes "div.w"
register_name ModW = codes "mod.w"
register_name DivWu = codes "div.wu"
register_name ModWu = codes "mod.wu"

abbrev pub shift_name : ShiftOp → List ℕ
shift_name SlliW = codes "slli.w"
shift_name SrliW = codes "srli.w"
shift_name SraiW = codes "srai.w"

abbrev pub immediate_name : ImmediateOp → List ℕ
immediate_name Slti = codes "slti"
immediate_name Sltui = codes "sltui"
immediate_name AddiW = codes "addi.w"
immediate_name Andi = codes "andi"
immediate_name Ori = codes "ori"
immediate_name Xori = codes "xori"

abbrev pub tlb_name : TlbOp → List ℕ
tlb_name Tlbsrch = codes "tlbsrch"
tlb_name Tlbrd = codes "tlbrd"
tlb_name Tlbwr = codes "tlbwr"
tlb_name Tlbfill = codes "tlbfill"

abbrev pub upper_name : UpperOp → List ℕ
upper_name Lu12iW = codes "lu12i.w"
upper_name Pcaddu12i = codes "pcaddu12i"

abbrev pub load_name : LoadOp → List ℕ
load_name LdB = codes "ld.b"
load_name LdH = codes "ld.h"
load_name LdW = codes "ld.w"
load_name LdBu = codes "ld.bu"
load_name LdHu = codes "ld.hu"

abbrev pub store_name : StoreOp → List ℕ
store_name StB = codes "st.b"
store_name StH = codes "st.h"
store_name StW = codes "st.w"

abbrev pub branch_name : BranchOp → List ℕ
branch_name Beq = codes "beq"
branch_name Bne = codes "bne"
branch_name Blt = codes "blt"
branch_name Bge = codes "bge"
branch_name Bltu = codes "bltu"
branch_name Bgeu = codes "bgeu"
