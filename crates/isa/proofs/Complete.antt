-- The word of an instruction is read as that instruction.
use Rattle.std.proofs.Common.{◌≡◌, ℕ, ◌+◌, ◌*◌, ◌/◌, ◌%◌, ◌^◌, ◌<◌, Some, refl, ap, ◌∙◌, arith, lit<}
use Rattle.std.proofs.lemmas.Nat.{div-add-mod'}
use Rattle.std.proofs.lemmas.Bool.Decides.{nat_tests}
use Rattle.isa.specs.declared.register.Reg.{Reg}
use Rattle.isa.specs.declared.least_register.RegFrom.{RegFrom}
use Rattle.isa.specs.declared.field.Field.{Field}
use Rattle.isa.specs.declared.instruction.ShiftOp.{ShiftOp}
use Rattle.isa.specs.declared.instruction.UpperOp.{UpperOp}
use Rattle.isa.specs.declared.instruction.CounterHalf.TheVariants.{Low, High}
use Rattle.isa.specs.declared.instruction.RegisterOp.TheVariants.{AddW, SubW, Slt, Sltu, Nor, And, Or, Xor, SllW, SrlW, SraW, MulW, MulhW, MulhWu, DivW, ModW, DivWu, ModWu}
use Rattle.isa.specs.declared.instruction.ShiftOp.TheVariants.{SlliW, SrliW, SraiW}
use Rattle.isa.specs.declared.instruction.ImmediateOp.TheVariants.{Slti, Sltui, AddiW, Andi, Ori, Xori}
use Rattle.isa.specs.declared.instruction.TlbOp.TheVariants.{Tlbsrch, Tlbrd, Tlbwr, Tlbfill}
use Rattle.isa.specs.declared.instruction.UpperOp.TheVariants.{Lu12iW, Pcaddu12i}
use Rattle.isa.specs.declared.instruction.LoadOp.TheVariants.{LdB, LdH, LdW, LdBu, LdHu}
use Rattle.isa.specs.declared.instruction.StoreOp.TheVariants.{StB, StH, StW}
use Rattle.isa.specs.declared.instruction.BranchOp.TheVariants.{Beq, Bne, Blt, Bge, Bltu, Bgeu}
use Rattle.isa.specs.declared.instruction.Instruction.{Instruction}
use Rattle.isa.specs.declared.instruction.Instruction.TheVariants.{Rdcntid, Rdcntv, Register, Break, Syscall, Shift, Immediate, Csrrd, Csrwr, Csrxchg, Cacop, Tlb, Ertn, Idle, Invtlb, Upper, Ll, Sc, Load, Store, Preld, Dbar, Ibar, Jirl, B, Bl, Branch}
use Rattle.isa.specs.Fields.{reg_of, reg_from_of, field_of, offs26_of}
use Rattle.isa.specs.Table.{encode, form_2r, form_3r, form_i15, form_2ri12, form_2ri14, form_2ri16, form_1ri20, form_i26}
use Rattle.isa.specs.Decoding.{counter_of, three_registers_of, shift_of, shifts_of, arithmetic_of, csr_of, tlb_and_waiting_of, cache_and_tlb_of, system_of, upper_of, atomic_of, memory_of, barrier_of, by_highest_bits, decode_of}
use Rattle.isa.proofs.Equal.{reg_ext, reg_from_ext, field_ext}

-- Which group has a word with the highest bits n. At a number that is written out, the group of n computes to its row.
to_highest : (n w : ℕ) → w / 2 ^ 26 ≡ n → decode_of w ≡ by_highest_bits n w
unfolding decode_of
to_highest n w e = ap (λ k. by_highest_bits k w) e

to_arithmetic : (n : ℕ) → n / 2 ^ 4 ≡ 0x00 → (w : ℕ) → w / 2 ^ 22 ≡ n → decode_of w ≡ arithmetic_of n w
to_arithmetic n h w e = to_highest 0x00 w (omega arith) ∙ ap (λ k. arithmetic_of k w) e

to_three : (n : ℕ) → n / 2 ^ 7 ≡ 0x00 → (w : ℕ) → w / 2 ^ 15 ≡ n → decode_of w ≡ three_registers_of n w
to_three n h w e = to_arithmetic 0x00 refl w (omega arith) ∙ ap (λ k. three_registers_of k w) e

to_shift : (n : ℕ) → n / 2 ^ 7 ≡ 0x01 → (w : ℕ) → w / 2 ^ 15 ≡ n → decode_of w ≡ shifts_of n w
to_shift n h w e = to_arithmetic 0x01 refl w (omega arith) ∙ ap (λ k. shifts_of k w) e

to_counter : (n : ℕ) → n / 2 ^ 5 ≡ 0x00 → (w : ℕ) → w / 2 ^ 10 ≡ n → decode_of w ≡ counter_of n w
to_counter n h w e = to_three 0x00 refl w (omega arith) ∙ ap (λ k. counter_of k w) e

to_system : (n : ℕ) → n / 2 ^ 2 ≡ 0x01 → (w : ℕ) → w / 2 ^ 24 ≡ n → decode_of w ≡ system_of n w
to_system n h w e = to_highest 0x01 w (omega arith) ∙ ap (λ k. system_of k w) e

to_csr : (n w : ℕ) → w / 2 ^ 24 ≡ 0x04 → w / 2 ^ 5 % 32 ≡ n → decode_of w ≡ Some (csr_of n w)
to_csr n w t e = to_system 0x04 refl w t ∙ ap (λ k. Some (csr_of k w)) e

to_cache_and_tlb : (n : ℕ) → n / 2 ^ 2 ≡ 0x06 → (w : ℕ) → w / 2 ^ 22 ≡ n → decode_of w ≡ cache_and_tlb_of n w
to_cache_and_tlb n h w e = to_system 0x06 refl w (omega arith) ∙ ap (λ k. cache_and_tlb_of k w) e

to_tlb_and_waiting : (n : ℕ) → n / 2 ^ 7 ≡ 0x19 → (w : ℕ) → w / 2 ^ 15 ≡ n → decode_of w ≡ tlb_and_waiting_of n w
to_tlb_and_waiting n h w e = to_cache_and_tlb 0x19 refl w (omega arith) ∙ ap (λ k. tlb_and_waiting_of k w) e

to_lu12i : (n : ℕ) → n / 2 ≡ 0x05 → (w : ℕ) → w / 2 ^ 25 ≡ n → decode_of w ≡ upper_of n w
to_lu12i n h w e = to_highest 0x05 w (omega arith) ∙ ap (λ k. upper_of k w) e

to_pcaddu12i : (n : ℕ) → n / 2 ≡ 0x07 → (w : ℕ) → w / 2 ^ 25 ≡ n → decode_of w ≡ upper_of n w
to_pcaddu12i n h w e = to_highest 0x07 w (omega arith) ∙ ap (λ k. upper_of k w) e

to_atomic : (n : ℕ) → n / 2 ^ 2 ≡ 0x08 → (w : ℕ) → w / 2 ^ 24 ≡ n → decode_of w ≡ atomic_of n w
to_atomic n h w e = to_highest 0x08 w (omega arith) ∙ ap (λ k. atomic_of k w) e

pub to_memory : (n : ℕ) → n / 2 ^ 4 ≡ 0x0a → (w : ℕ) → w / 2 ^ 22 ≡ n → decode_of w ≡ memory_of n w
to_memory n h w e = to_highest 0x0a w (omega arith) ∙ ap (λ k. memory_of k w) e

to_barrier : (n : ℕ) → n / 2 ^ 11 ≡ 0x0e → (w : ℕ) → w / 2 ^ 15 ≡ n → decode_of w ≡ barrier_of n w
to_barrier n h w e = to_highest 0x0e w (omega arith) ∙ ap (λ k. barrier_of k w) e

-- Each form: its fields come back out of its word.
read_3r : (make : Reg → Reg → Reg → Instruction) (n : ℕ) (rd rj rk : Reg)
    → ((w : ℕ) → w / 2 ^ 15 ≡ n → decode_of w ≡ Some (make (reg_of w) (reg_of (w / 2 ^ 5)) (reg_of (w / 2 ^ 10))))
    → decode_of (form_3r n rk.index rj.index rd.index) ≡ Some (make rd rj rk)
read_3r make n rd rj rk to =
    let w : ℕ = form_3r n rk.index rj.index rd.index in
    let d : reg_of w ≡ rd = reg_ext _ _ (omega arith) in
    let j : reg_of (w / 2 ^ 5) ≡ rj = reg_ext _ _ (omega arith) in
    let k : reg_of (w / 2 ^ 10) ≡ rk = reg_ext _ _ (omega arith) in
    to w (omega arith) ∙ (λ i. Some (make (d i) (j i) (k i)))

read_shift : (op : ShiftOp) (n : ℕ) (rd rj : Reg) (v : Field 5)
    → ((w : ℕ) → w / 2 ^ 15 ≡ n → decode_of w ≡ shift_of op w)
    → decode_of (form_3r n v.value rj.index rd.index) ≡ Some (Shift op rd rj v)
read_shift op n rd rj v to =
    let w : ℕ = form_3r n v.value rj.index rd.index in
    let d : reg_of w ≡ rd = reg_ext _ _ (omega arith) in
    let j : reg_of (w / 2 ^ 5) ≡ rj = reg_ext _ _ (omega arith) in
    let k : field_of 5 (w / 2 ^ 10) ≡ v = field_ext 5 _ _ (omega arith) in
    to w (omega arith) ∙ (λ i. Some (Shift op (d i) (j i) (k i)))

read_invtlb : (n : ℕ) (op : Field 5) (rj rk : Reg)
    → ((w : ℕ) → w / 2 ^ 15 ≡ n → decode_of w ≡ Some (Invtlb (field_of 5 w) (reg_of (w / 2 ^ 5)) (reg_of (w / 2 ^ 10))))
    → decode_of (form_3r n rk.index rj.index op.value) ≡ Some (Invtlb op rj rk)
read_invtlb n op rj rk to =
    let w : ℕ = form_3r n rk.index rj.index op.value in
    let d : field_of 5 w ≡ op = field_ext 5 _ _ (omega arith) in
    let j : reg_of (w / 2 ^ 5) ≡ rj = reg_ext _ _ (omega arith) in
    let k : reg_of (w / 2 ^ 10) ≡ rk = reg_ext _ _ (omega arith) in
    to w (omega arith) ∙ (λ i. Some (Invtlb (d i) (j i) (k i)))

read_i15 : (make : Field 15 → Instruction) (n : ℕ) (v : Field 15)
    → ((w : ℕ) → w / 2 ^ 15 ≡ n → decode_of w ≡ Some (make (field_of 15 w)))
    → decode_of (form_i15 n v.value) ≡ Some (make v)
read_i15 make n v to =
    let w : ℕ = form_i15 n v.value in
    let k : field_of 15 w ≡ v = field_ext 15 _ _ (omega arith) in
    to w (omega arith) ∙ (λ i. Some (make (k i)))

read_2ri12 : (make : Reg → Reg → Field 12 → Instruction) (n : ℕ) (rd rj : Reg) (v : Field 12)
    → ((w : ℕ) → w / 2 ^ 22 ≡ n → decode_of w ≡ Some (make (reg_of w) (reg_of (w / 2 ^ 5)) (field_of 12 (w / 2 ^ 10))))
    → decode_of (form_2ri12 n v.value rj.index rd.index) ≡ Some (make rd rj v)
read_2ri12 make n rd rj v to =
    let w : ℕ = form_2ri12 n v.value rj.index rd.index in
    let d : reg_of w ≡ rd = reg_ext _ _ (omega arith) in
    let j : reg_of (w / 2 ^ 5) ≡ rj = reg_ext _ _ (omega arith) in
    let k : field_of 12 (w / 2 ^ 10) ≡ v = field_ext 12 _ _ (omega arith) in
    to w (omega arith) ∙ (λ i. Some (make (d i) (j i) (k i)))

read_hinted : (make : Field 5 → Reg → Field 12 → Instruction) (n : ℕ) (hint : Field 5) (rj : Reg) (v : Field 12)
    → ((w : ℕ) → w / 2 ^ 22 ≡ n → decode_of w ≡ Some (make (field_of 5 w) (reg_of (w / 2 ^ 5)) (field_of 12 (w / 2 ^ 10))))
    → decode_of (form_2ri12 n v.value rj.index hint.value) ≡ Some (make hint rj v)
read_hinted make n hint rj v to =
    let w : ℕ = form_2ri12 n v.value rj.index hint.value in
    let d : field_of 5 w ≡ hint = field_ext 5 _ _ (omega arith) in
    let j : reg_of (w / 2 ^ 5) ≡ rj = reg_ext _ _ (omega arith) in
    let k : field_of 12 (w / 2 ^ 10) ≡ v = field_ext 12 _ _ (omega arith) in
    to w (omega arith) ∙ (λ i. Some (make (d i) (j i) (k i)))

read_2ri14 : (make : Reg → Reg → Field 14 → Instruction) (n : ℕ) (rd rj : Reg) (v : Field 14)
    → ((w : ℕ) → w / 2 ^ 24 ≡ n → decode_of w ≡ Some (make (reg_of w) (reg_of (w / 2 ^ 5)) (field_of 14 (w / 2 ^ 10))))
    → decode_of (form_2ri14 n v.value rj.index rd.index) ≡ Some (make rd rj v)
read_2ri14 make n rd rj v to =
    let w : ℕ = form_2ri14 n v.value rj.index rd.index in
    let d : reg_of w ≡ rd = reg_ext _ _ (omega arith) in
    let j : reg_of (w / 2 ^ 5) ≡ rj = reg_ext _ _ (omega arith) in
    let k : field_of 14 (w / 2 ^ 10) ≡ v = field_ext 14 _ _ (omega arith) in
    to w (omega arith) ∙ (λ i. Some (make (d i) (j i) (k i)))

read_2ri16 : (make : Reg → Reg → Field 16 → Instruction) (n : ℕ) (rd rj : Reg) (v : Field 16)
    → ((w : ℕ) → w / 2 ^ 26 ≡ n → decode_of w ≡ Some (make (reg_of w) (reg_of (w / 2 ^ 5)) (field_of 16 (w / 2 ^ 10))))
    → decode_of (form_2ri16 n v.value rj.index rd.index) ≡ Some (make rd rj v)
read_2ri16 make n rd rj v to =
    let w : ℕ = form_2ri16 n v.value rj.index rd.index in
    let d : reg_of w ≡ rd = reg_ext _ _ (omega arith) in
    let j : reg_of (w / 2 ^ 5) ≡ rj = reg_ext _ _ (omega arith) in
    let k : field_of 16 (w / 2 ^ 10) ≡ v = field_ext 16 _ _ (omega arith) in
    to w (omega arith) ∙ (λ i. Some (make (d i) (j i) (k i)))

read_1ri20 : (op : UpperOp) (n : ℕ) (rd : Reg) (v : Field 20)
    → ((w : ℕ) → w / 2 ^ 25 ≡ n → decode_of w ≡ Some (Upper op (reg_of w) (field_of 20 (w / 2 ^ 5))))
    → decode_of (form_1ri20 n v.value rd.index) ≡ Some (Upper op rd v)
read_1ri20 op n rd v to =
    let w : ℕ = form_1ri20 n v.value rd.index in
    let d : reg_of w ≡ rd = reg_ext _ _ (omega arith) in
    let k : field_of 20 (w / 2 ^ 5) ≡ v = field_ext 20 _ _ (omega arith) in
    to w (omega arith) ∙ (λ i. Some (Upper op (d i) (k i)))

offset_fields : (n a b : ℕ) → a < 2 ^ 16 → b < 2 ^ 10 → ((n * 2 ^ 26 + a * 2 ^ 10 + b) / 2 ^ 26 ≡ n) × ((n * 2 ^ 26 + a * 2 ^ 10 + b) % 2 ^ 10 * 2 ^ 16 + (n * 2 ^ 26 + a * 2 ^ 10 + b) / 2 ^ 10 % 2 ^ 16 ≡ b * 2 ^ 16 + a)
offset_fields n a b f g = (omega arith, omega arith)

read_i26 : (make : Field 26 → Instruction) (n : ℕ) (v : Field 26)
    → ((w : ℕ) → w / 2 ^ 26 ≡ n → decode_of w ≡ Some (make (offs26_of w)))
    → decode_of (form_i26 n v.value) ≡ Some (make v)
read_i26 make n v to =
    let w : ℕ = form_i26 n v.value in
    let f : v.value / 2 ^ 16 < 2 ^ 10 = omega arith in
    let h = offset_fields n (v.value % 2 ^ 16) (v.value / 2 ^ 16) (omega arith) f in
    let k : offs26_of w ≡ v = field_ext 26 _ _ (h.1 ∙ div-add-mod' v.value (2 ^ 16)) in
    to w h.0 ∙ (λ i. Some (make (k i)))

read_csr : (make : Reg → Field 14 → Instruction) (r : ℕ) (rd : Reg) (v : Field 14) → r < 32
    → ((w : ℕ) → w / 2 ^ 24 ≡ 0x04 → w / 2 ^ 5 % 32 ≡ r → decode_of w ≡ Some (make (reg_of w) (field_of 14 (w / 2 ^ 10))))
    → decode_of (form_2ri14 0x04 v.value r rd.index) ≡ Some (make rd v)
read_csr make r rd v h to =
    let w : ℕ = form_2ri14 0x04 v.value r rd.index in
    let d : reg_of w ≡ rd = reg_ext _ _ (omega arith) in
    let k : field_of 14 (w / 2 ^ 10) ≡ v = field_ext 14 _ _ (omega arith) in
    to w (omega arith) (omega arith) ∙ (λ i. Some (make (d i) (k i)))

csr_else : (n w : ℕ) → 1 < n → csr_of n w ≡ Csrxchg (reg_of w) (reg_from_of 2 (lit< tt) (w / 2 ^ 5)) (field_of 14 (w / 2 ^ 10))
csr_else n w h = grind (arith, nat_tests)

read_csrxchg : (rd : Reg) (rj : RegFrom 2) (v : Field 14) → decode_of (encode (Csrxchg rd rj v)) ≡ Some (Csrxchg rd rj v)
read_csrxchg rd rj v =
    let w : ℕ = encode (Csrxchg rd rj v) in
    let d : reg_of w ≡ rd = reg_ext _ _ (omega arith) in
    let j : reg_from_of 2 (lit< tt) (w / 2 ^ 5) ≡ rj = reg_from_ext 2 _ _ (omega arith) in
    let k : field_of 14 (w / 2 ^ 10) ≡ v = field_ext 14 _ _ (omega arith) in
    to_csr rj.reg.index w (omega arith) (omega arith) ∙ ap Some (csr_else rj.reg.index w rj.least) ∙ (λ i. Some (Csrxchg (d i) (j i) (k i)))

read_counter : (make : Reg → Instruction) (n : ℕ) (rd : Reg)
    → ((w : ℕ) → w / 2 ^ 10 ≡ n → w / 2 ^ 5 % 32 ≡ 0 → decode_of w ≡ Some (make (reg_of w)))
    → decode_of (form_2r n 0 rd.index) ≡ Some (make rd)
read_counter make n rd to =
    let w : ℕ = form_2r n 0 rd.index in
    let d : reg_of w ≡ rd = reg_ext _ _ (omega arith) in
    to w (omega arith) (omega arith) ∙ (λ i. Some (make (d i)))

counter_low : (w : ℕ) → w / 2 ^ 5 % 32 ≡ 0 → counter_of 0x18 w ≡ Some (Rdcntv Low (reg_of w))
counter_low w h = grind (arith, nat_tests)

counter_high : (w : ℕ) → w / 2 ^ 5 % 32 ≡ 0 → counter_of 0x19 w ≡ Some (Rdcntv High (reg_of w))
counter_high w h = grind (arith, nat_tests)

counter_id : (w : ℕ) → 0 < w / 2 ^ 5 % 32 → w % 32 ≡ 0 → counter_of 0x18 w ≡ Some (Rdcntid (reg_from_of 1 (lit< tt) (w / 2 ^ 5)))
counter_id w l h = grind (arith, nat_tests)

-- the table, row by row
pub complete : (i : Instruction) → decode_of (encode i) ≡ Some i
unfolding decode_of
complete (Rdcntid rj) =
    let w : ℕ = encode (Rdcntid rj) in
    let j : reg_from_of 1 (lit< tt) (w / 2 ^ 5) ≡ rj = reg_from_ext 1 _ _ (omega arith) in
    to_counter 0x18 refl w (omega arith) ∙ counter_id w (omega arith) (omega arith) ∙ ap (λ r. Some (Rdcntid r)) j
complete (Rdcntv Low rd) = read_counter (Rdcntv Low) 0x18 rd (λ w e z. to_counter 0x18 refl w e ∙ counter_low w z)
complete (Rdcntv High rd) = read_counter (Rdcntv High) 0x19 rd (λ w e z. to_counter 0x19 refl w e ∙ counter_high w z)
complete (Register AddW rd rj rk) = read_3r (Register AddW) 0x20 rd rj rk (to_three 0x20 refl)
complete (Register SubW rd rj rk) = read_3r (Register SubW) 0x22 rd rj rk (to_three 0x22 refl)
complete (Register Slt rd rj rk) = read_3r (Register Slt) 0x24 rd rj rk (to_three 0x24 refl)
complete (Register Sltu rd rj rk) = read_3r (Register Sltu) 0x25 rd rj rk (to_three 0x25 refl)
complete (Register Nor rd rj rk) = read_3r (Register Nor) 0x28 rd rj rk (to_three 0x28 refl)
complete (Register And rd rj rk) = read_3r (Register And) 0x29 rd rj rk (to_three 0x29 refl)
complete (Register Or rd rj rk) = read_3r (Register Or) 0x2a rd rj rk (to_three 0x2a refl)
complete (Register Xor rd rj rk) = read_3r (Register Xor) 0x2b rd rj rk (to_three 0x2b refl)
complete (Register SllW rd rj rk) = read_3r (Register SllW) 0x2e rd rj rk (to_three 0x2e refl)
complete (Register SrlW rd rj rk) = read_3r (Register SrlW) 0x2f rd rj rk (to_three 0x2f refl)
complete (Register SraW rd rj rk) = read_3r (Register SraW) 0x30 rd rj rk (to_three 0x30 refl)
complete (Register MulW rd rj rk) = read_3r (Register MulW) 0x38 rd rj rk (to_three 0x38 refl)
complete (Register MulhW rd rj rk) = read_3r (Register MulhW) 0x39 rd rj rk (to_three 0x39 refl)
complete (Register MulhWu rd rj rk) = read_3r (Register MulhWu) 0x3a rd rj rk (to_three 0x3a refl)
complete (Register DivW rd rj rk) = read_3r (Register DivW) 0x40 rd rj rk (to_three 0x40 refl)
complete (Register ModW rd rj rk) = read_3r (Register ModW) 0x41 rd rj rk (to_three 0x41 refl)
complete (Register DivWu rd rj rk) = read_3r (Register DivWu) 0x42 rd rj rk (to_three 0x42 refl)
complete (Register ModWu rd rj rk) = read_3r (Register ModWu) 0x43 rd rj rk (to_three 0x43 refl)
complete (Break v) = read_i15 Break 0x54 v (to_three 0x54 refl)
complete (Syscall v) = read_i15 Syscall 0x56 v (to_three 0x56 refl)
complete (Shift SlliW rd rj v) = read_shift SlliW 0x81 rd rj v (to_shift 0x81 refl)
complete (Shift SrliW rd rj v) = read_shift SrliW 0x89 rd rj v (to_shift 0x89 refl)
complete (Shift SraiW rd rj v) = read_shift SraiW 0x91 rd rj v (to_shift 0x91 refl)
complete (Immediate Slti rd rj v) = read_2ri12 (Immediate Slti) 0x08 rd rj v (to_arithmetic 0x08 refl)
complete (Immediate Sltui rd rj v) = read_2ri12 (Immediate Sltui) 0x09 rd rj v (to_arithmetic 0x09 refl)
complete (Immediate AddiW rd rj v) = read_2ri12 (Immediate AddiW) 0x0a rd rj v (to_arithmetic 0x0a refl)
complete (Immediate Andi rd rj v) = read_2ri12 (Immediate Andi) 0x0d rd rj v (to_arithmetic 0x0d refl)
complete (Immediate Ori rd rj v) = read_2ri12 (Immediate Ori) 0x0e rd rj v (to_arithmetic 0x0e refl)
complete (Immediate Xori rd rj v) = read_2ri12 (Immediate Xori) 0x0f rd rj v (to_arithmetic 0x0f refl)
complete (Csrrd rd v) = read_csr Csrrd 0 rd v (omega arith) (to_csr 0)
complete (Csrwr rd v) = read_csr Csrwr 1 rd v (omega arith) (to_csr 1)
complete (Csrxchg rd rj v) = read_csrxchg rd rj v
complete (Cacop c rj v) = read_hinted Cacop 0x18 c rj v (to_cache_and_tlb 0x18 refl)
complete (Tlb Tlbsrch) = refl
complete (Tlb Tlbrd) = refl
complete (Tlb Tlbwr) = refl
complete (Tlb Tlbfill) = refl
complete Ertn = refl
complete (Idle v) = read_i15 Idle 0xc91 v (to_tlb_and_waiting 0xc91 refl)
complete (Invtlb op rj rk) = read_invtlb 0xc93 op rj rk (to_tlb_and_waiting 0xc93 refl)
complete (Upper Lu12iW rd v) = read_1ri20 Lu12iW 0x0a rd v (to_lu12i 0x0a refl)
complete (Upper Pcaddu12i rd v) = read_1ri20 Pcaddu12i 0x0e rd v (to_pcaddu12i 0x0e refl)
complete (Ll rd rj v) = read_2ri14 Ll 0x20 rd rj v (to_atomic 0x20 refl)
complete (Sc rd rj v) = read_2ri14 Sc 0x21 rd rj v (to_atomic 0x21 refl)
complete (Load LdB rd rj v) = read_2ri12 (Load LdB) 0xa0 rd rj v (to_memory 0xa0 refl)
complete (Load LdH rd rj v) = read_2ri12 (Load LdH) 0xa1 rd rj v (to_memory 0xa1 refl)
complete (Load LdW rd rj v) = read_2ri12 (Load LdW) 0xa2 rd rj v (to_memory 0xa2 refl)
complete (Load LdBu rd rj v) = read_2ri12 (Load LdBu) 0xa8 rd rj v (to_memory 0xa8 refl)
complete (Load LdHu rd rj v) = read_2ri12 (Load LdHu) 0xa9 rd rj v (to_memory 0xa9 refl)
complete (Store StB rd rj v) = read_2ri12 (Store StB) 0xa4 rd rj v (to_memory 0xa4 refl)
complete (Store StH rd rj v) = read_2ri12 (Store StH) 0xa5 rd rj v (to_memory 0xa5 refl)
complete (Store StW rd rj v) = read_2ri12 (Store StW) 0xa6 rd rj v (to_memory 0xa6 refl)
complete (Preld c rj v) = read_hinted Preld 0xab c rj v (to_memory 0xab refl)
complete (Dbar v) = read_i15 Dbar 0x70e4 v (to_barrier 0x70e4 refl)
complete (Ibar v) = read_i15 Ibar 0x70e5 v (to_barrier 0x70e5 refl)
complete (Jirl rd rj v) = read_2ri16 Jirl 0x13 rd rj v (to_highest 0x13)
complete (B v) = read_i26 B 0x14 v (to_highest 0x14)
complete (Bl v) = read_i26 Bl 0x15 v (to_highest 0x15)
complete (Branch Beq rj rd v) = read_2ri16 (λ d j k. Branch Beq j d k) 0x16 rd rj v (to_highest 0x16)
complete (Branch Bne rj rd v) = read_2ri16 (λ d j k. Branch Bne j d k) 0x17 rd rj v (to_highest 0x17)
complete (Branch Blt rj rd v) = read_2ri16 (λ d j k. Branch Blt j d k) 0x18 rd rj v (to_highest 0x18)
complete (Branch Bge rj rd v) = read_2ri16 (λ d j k. Branch Bge j d k) 0x19 rd rj v (to_highest 0x19)
complete (Branch Bltu rj rd v) = read_2ri16 (λ d j k. Branch Bltu j d k) 0x1a rd rj v (to_highest 0x1a)
complete (Branch Bgeu rj rd v) = read_2ri16 (λ d j k. Branch Bgeu j d k) 0x1b rd rj v (to_highest 0x1b)
