-- The general registers, as a list of their values.
use Rattle.std.specs.Prelude.{ℕ, cond, ◌==◌, List, replicate, slice_index_or, slice_set}
use Rattle.isa.specs.declared.register.Reg.{Reg}
use Rattle.isa.specs.Fields.{reg_of}

abbrev pub reset_general : List ℕ
reset_general = replicate 32 0

-- GR[r]
abbrev pub gr : List ℕ → Reg → ℕ
gr g r = slice_index_or g r.index 0

-- GR[r] set to a value; r0 stays 0
abbrev pub with_gr : List ℕ → Reg → ℕ → List ℕ
with_gr g r value = cond (r.index == 0) g (slice_set g r.index value)

-- r1, in which BL puts the address of the next instruction
abbrev pub return_register : Reg
return_register = reg_of 1
