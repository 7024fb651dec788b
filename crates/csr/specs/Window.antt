-- DMW0 and DMW1 by their fields.
use Rattle.std.specs.Prelude.{ℕ, ◌+◌, ◌*◌, ◌^◌}
use Rattle.csr.specs.declared.window.Window.{Window}
use Rattle.csr.specs.Words.{bit, flag, field}

-- PLV0 0, PLV3 3, MAT 5:4, PSEG 27:25, VSEG 31:29
abbrev pub dmw : Window → ℕ
dmw w = bit w.plv0 + bit w.plv3 * 2 ^ 3 + w.mat * 2 ^ 4 + w.pseg * 2 ^ 25 + w.vseg * 2 ^ 29

abbrev pub dmw_of : ℕ → Window
dmw_of word = record {
  plv0 = flag word 0;
  plv3 = flag word 3;
  mat = field word 4 2;
  pseg = field word 25 3;
  vseg = field word 29 3;
}
