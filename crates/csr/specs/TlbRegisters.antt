-- TLBIDX, TLBEHI and TLBELO by their fields.
use Rattle.std.specs.Prelude.{ℕ, ◌+◌, ◌*◌, ◌^◌}
use Rattle.pages.specs.Kinds.{ps, ps_written}
use Rattle.csr.specs.declared.tlb_registers.TlbLow.{TlbLow}
use Rattle.csr.specs.declared.tlb_registers.TlbRegisters.{TlbRegisters}
use Rattle.csr.specs.Words.{bit, flag, field}

-- TLBELO: V 0, D 1, PLV 3:2, MAT 5:4, G 6, PPN 27:8
abbrev pub tlbelo : TlbLow → ℕ
tlbelo l =
    bit l.half.valid + bit l.half.dirty * 2 + l.half.plv * 2 ^ 2 + l.half.mat * 2 ^ 4 + bit l.global * 2 ^ 6
    + l.half.frame.0 * 2 ^ 8

abbrev pub tlbelo_of : ℕ → TlbLow
tlbelo_of word = record {
  half = record {
    valid = flag word 0;
    dirty = flag word 1;
    plv = field word 2 2;
    mat = field word 4 2;
    frame = record { 0 = field word 8 20 };
  };
  global = flag word 6;
}

-- TLBIDX: Index 3:0, PS 29:24, NE 31
abbrev pub tlbidx : TlbRegisters → ℕ
tlbidx r = r.index + ps r.ps * 2 ^ 24 + bit r.ne * 2 ^ 31

abbrev pub with_tlbidx : TlbRegisters → ℕ → TlbRegisters
with_tlbidx r word = record r { index = field word 0 4; ps = ps_written r.ps (field word 24 6); ne = flag word 31 }

-- TLBEHI: VPPN 31:13
abbrev pub tlbehi : TlbRegisters → ℕ
tlbehi r = r.vppn * 2 ^ 13

abbrev pub with_tlbehi : TlbRegisters → ℕ → TlbRegisters
with_tlbehi r word = record r { vppn = field word 13 19 }
