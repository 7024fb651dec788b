-- Which instruction a word is, found by its bits from the highest down. That this is the table's inverse is the law on
-- `decode` (`Exact`, in Table.antt); a reader who believes the table need not read on here.
use Rattle.std.specs.Prelude.{ℕ, ◌/◌, ◌%◌, ◌^◌, cond, List, [], ◌∷◌, Some, None, Option, ◌==◌}
use Rattle.std.proofs.Common.{lit<}
use Rattle.isa.specs.declared.instruction.RegisterOp.{RegisterOp}
use Rattle.isa.specs.declared.instruction.ShiftOp.{ShiftOp}
use Rattle.isa.specs.declared.instruction.ImmediateOp.{ImmediateOp}
use Rattle.isa.specs.declared.instruction.LoadOp.{LoadOp}
use Rattle.isa.specs.declared.instruction.StoreOp.{StoreOp}
use Rattle.isa.specs.declared.instruction.BranchOp.{BranchOp}
use Rattle.isa.specs.declared.instruction.CounterHalf.TheVariants.{Low, High}
use Rattle.isa.specs.declared.instruction.RegisterOp.TheVariants.{AddW, SubW, Slt, Sltu, Nor, And, Or, Xor, SllW, SrlW, SraW, MulW, MulhW, MulhWu, DivW, ModW, DivWu, ModWu}
use Rattle.isa.specs.declared.instruction.ShiftOp.TheVariants.{SlliW, SrliW, SraiW}
use Rattle.isa.specs.declared.instruction.ImmediateOp.TheVariants.{Slti, Sltui, AddiW, Andi, Ori, Xori}
use Rattle.isa.specs.declared.instruction.TlbOp.TheVariants.{Tlbsrch, Tlbrd, Tlbwr, Tlbfill}
use Rattle.isa.specs.declared.instruction.UpperOp.TheVariants.{Lu12iW, Pcaddu12i}
use Rattle.isa.specs.declared.instruction.LoadOp.TheVariants.{LdB, LdH, LdW, LdBu, LdHu}
use Rattle.isa.specs.declared.instruction.StoreOp.TheVariants.{StB, StH, StW}
use Rattle.isa.specs.declared.instruction.BranchOp.TheVariants.{Beq, Bne, Blt, Bge, Bltu, Bgeu}
use Rattle.isa.specs.declared.instruction.Instruction.{Instruction}
use Rattle.isa.specs.declared.instruction.Instruction.TheVariants.{Rdcntid, Rdcntv, Register, Break, Syscall, Shift, Immediate, Csrrd, Csrwr, Csrxchg, Cacop, Tlb, Ertn, Idle, Invtlb, Upper, Ll, Sc, Load, Store, Preld, Dbar, Ibar, Jirl, B, Bl, Branch}
use Rattle.isa.specs.Fields.{reg_of, reg_from_of, field_of, offs26_of}

-- the first row of number n
abbrev pub choose : ℕ → List (ℕ × Option Instruction) → Option Instruction
choose n [] = None
choose n (row ∷ rows) = cond (n == row.0) row.1 (choose n rows)

abbrev pub counter_of : ℕ → ℕ → Option Instruction
counter_of n w =
    cond (n == 0x18)
    (cond (w / 2 ^ 5 % 32 == 0) (Some (Rdcntv Low (reg_of w)))
    (cond (w % 32 == 0) (Some (Rdcntid (reg_from_of 1 (lit< tt) (w / 2 ^ 5))))
    None))
    (cond (n == 0x19)
    (cond (w / 2 ^ 5 % 32 == 0) (Some (Rdcntv High (reg_of w)))
    None)
    None)

abbrev pub register_of : RegisterOp → ℕ → Option Instruction
register_of op w = Some (Register op (reg_of w) (reg_of (w / 2 ^ 5)) (reg_of (w / 2 ^ 10)))

abbrev pub three_registers_of : ℕ → ℕ → Option Instruction
three_registers_of n w = choose n
    ((0x00, counter_of (w / 2 ^ 10) w)
    ∷ (0x20, register_of AddW w)
    ∷ (0x22, register_of SubW w)
    ∷ (0x24, register_of Slt w)
    ∷ (0x25, register_of Sltu w)
    ∷ (0x28, register_of Nor w)
    ∷ (0x29, register_of And w)
    ∷ (0x2a, register_of Or w)
    ∷ (0x2b, register_of Xor w)
    ∷ (0x2e, register_of SllW w)
    ∷ (0x2f, register_of SrlW w)
    ∷ (0x30, register_of SraW w)
    ∷ (0x38, register_of MulW w)
    ∷ (0x39, register_of MulhW w)
    ∷ (0x3a, register_of MulhWu w)
    ∷ (0x40, register_of DivW w)
    ∷ (0x41, register_of ModW w)
    ∷ (0x42, register_of DivWu w)
    ∷ (0x43, register_of ModWu w)
    ∷ (0x54, Some (Break (field_of 15 w)))
    ∷ (0x56, Some (Syscall (field_of 15 w)))
    ∷ [])

abbrev pub shift_of : ShiftOp → ℕ → Option Instruction
shift_of op w = Some (Shift op (reg_of w) (reg_of (w / 2 ^ 5)) (field_of 5 (w / 2 ^ 10)))

abbrev pub shifts_of : ℕ → ℕ → Option Instruction
shifts_of n w = choose n
    ((0x81, shift_of SlliW w)
    ∷ (0x89, shift_of SrliW w)
    ∷ (0x91, shift_of SraiW w)
    ∷ [])

abbrev pub immediate_of : ImmediateOp → ℕ → Option Instruction
immediate_of op w = Some (Immediate op (reg_of w) (reg_of (w / 2 ^ 5)) (field_of 12 (w / 2 ^ 10)))

abbrev pub arithmetic_of : ℕ → ℕ → Option Instruction
arithmetic_of n w = choose n
    ((0x00, three_registers_of (w / 2 ^ 15) w)
    ∷ (0x01, shifts_of (w / 2 ^ 15) w)
    ∷ (0x08, immediate_of Slti w)
    ∷ (0x09, immediate_of Sltui w)
    ∷ (0x0a, immediate_of AddiW w)
    ∷ (0x0d, immediate_of Andi w)
    ∷ (0x0e, immediate_of Ori w)
    ∷ (0x0f, immediate_of Xori w)
    ∷ [])

abbrev pub csr_of : ℕ → ℕ → Instruction
csr_of n w =
    cond (n == 0) (Csrrd (reg_of w) (field_of 14 (w / 2 ^ 10)))
    (cond (n == 1) (Csrwr (reg_of w) (field_of 14 (w / 2 ^ 10)))
    (Csrxchg (reg_of w) (reg_from_of 2 (lit< tt) (w / 2 ^ 5)) (field_of 14 (w / 2 ^ 10))))

abbrev pub whole_word_of : ℕ → Option Instruction
whole_word_of w = choose w
    ((0x06482800, Some (Tlb Tlbsrch))
    ∷ (0x06482c00, Some (Tlb Tlbrd))
    ∷ (0x06483000, Some (Tlb Tlbwr))
    ∷ (0x06483400, Some (Tlb Tlbfill))
    ∷ (0x06483800, Some Ertn)
    ∷ [])

abbrev pub tlb_and_waiting_of : ℕ → ℕ → Option Instruction
tlb_and_waiting_of n w = choose n
    ((0xc90, whole_word_of w)
    ∷ (0xc91, Some (Idle (field_of 15 w)))
    ∷ (0xc93, Some (Invtlb (field_of 5 w) (reg_of (w / 2 ^ 5)) (reg_of (w / 2 ^ 10))))
    ∷ [])

abbrev pub cache_and_tlb_of : ℕ → ℕ → Option Instruction
cache_and_tlb_of n w = choose n
    ((0x18, Some (Cacop (field_of 5 w) (reg_of (w / 2 ^ 5)) (field_of 12 (w / 2 ^ 10))))
    ∷ (0x19, tlb_and_waiting_of (w / 2 ^ 15) w)
    ∷ [])

abbrev pub system_of : ℕ → ℕ → Option Instruction
system_of n w =
    cond (n == 0x04) (Some (csr_of (w / 2 ^ 5 % 32) w))
    (cache_and_tlb_of (w / 2 ^ 22) w)

abbrev pub upper_of : ℕ → ℕ → Option Instruction
upper_of n w = choose n
    ((0x0a, Some (Upper Lu12iW (reg_of w) (field_of 20 (w / 2 ^ 5))))
    ∷ (0x0e, Some (Upper Pcaddu12i (reg_of w) (field_of 20 (w / 2 ^ 5))))
    ∷ [])

abbrev pub atomic_of : ℕ → ℕ → Option Instruction
atomic_of n w = choose n
    ((0x20, Some (Ll (reg_of w) (reg_of (w / 2 ^ 5)) (field_of 14 (w / 2 ^ 10))))
    ∷ (0x21, Some (Sc (reg_of w) (reg_of (w / 2 ^ 5)) (field_of 14 (w / 2 ^ 10))))
    ∷ [])

abbrev pub load_of : LoadOp → ℕ → Option Instruction
load_of op w = Some (Load op (reg_of w) (reg_of (w / 2 ^ 5)) (field_of 12 (w / 2 ^ 10)))

abbrev pub store_of : StoreOp → ℕ → Option Instruction
store_of op w = Some (Store op (reg_of w) (reg_of (w / 2 ^ 5)) (field_of 12 (w / 2 ^ 10)))

abbrev pub memory_of : ℕ → ℕ → Option Instruction
memory_of n w = choose n
    ((0xa0, load_of LdB w)
    ∷ (0xa1, load_of LdH w)
    ∷ (0xa2, load_of LdW w)
    ∷ (0xa4, store_of StB w)
    ∷ (0xa5, store_of StH w)
    ∷ (0xa6, store_of StW w)
    ∷ (0xa8, load_of LdBu w)
    ∷ (0xa9, load_of LdHu w)
    ∷ (0xab, Some (Preld (field_of 5 w) (reg_of (w / 2 ^ 5)) (field_of 12 (w / 2 ^ 10))))
    ∷ [])

abbrev pub barrier_of : ℕ → ℕ → Option Instruction
barrier_of n w = choose n
    ((0x70e4, Some (Dbar (field_of 15 w)))
    ∷ (0x70e5, Some (Ibar (field_of 15 w)))
    ∷ [])

abbrev pub branch_of : BranchOp → ℕ → Option Instruction
branch_of op w = Some (Branch op (reg_of (w / 2 ^ 5)) (reg_of w) (field_of 16 (w / 2 ^ 10)))

abbrev pub highest_rows : ℕ → List (ℕ × Option Instruction)
highest_rows w =
    ((0x00, arithmetic_of (w / 2 ^ 22) w)
    ∷ (0x01, system_of (w / 2 ^ 24) w)
    ∷ (0x05, upper_of (w / 2 ^ 25) w)
    ∷ (0x07, upper_of (w / 2 ^ 25) w)
    ∷ (0x08, atomic_of (w / 2 ^ 24) w)
    ∷ (0x0a, memory_of (w / 2 ^ 22) w)
    ∷ (0x0e, barrier_of (w / 2 ^ 15) w)
    ∷ (0x13, Some (Jirl (reg_of w) (reg_of (w / 2 ^ 5)) (field_of 16 (w / 2 ^ 10))))
    ∷ (0x14, Some (B (offs26_of w)))
    ∷ (0x15, Some (Bl (offs26_of w)))
    ∷ (0x16, branch_of Beq w)
    ∷ (0x17, branch_of Bne w)
    ∷ (0x18, branch_of Blt w)
    ∷ (0x19, branch_of Bge w)
    ∷ (0x1a, branch_of Bltu w)
    ∷ (0x1b, branch_of Bgeu w)
    ∷ [])

abbrev pub by_highest_bits : ℕ → ℕ → Option Instruction
by_highest_bits n w = choose n (highest_rows w)

unfoldable pub decode_of : ℕ → Option Instruction
decode_of w = by_highest_bits (w / 2 ^ 26) w
