-- The fields of an instruction word.
use Rattle.std.specs.Prelude.{ℕ, ◌+◌, ◌*◌, ◌/◌, ◌%◌, ◌^◌, ◌<◌, ◌≤◌, max}
use Rattle.std.proofs.Common.{lit<, arith, mod-lt, pow_pos}
use Rattle.isa.specs.declared.register.Reg.{Reg}
use Rattle.isa.specs.declared.least_register.RegFrom.{RegFrom}
use Rattle.isa.specs.declared.field.Field.{Field}

-- the register of a number's five lowest bits
abbrev pub reg_of : ℕ → Reg
reg_of n = record { index = n % 32; fits = mod-lt n (lit< tt) }

-- what the type RegFrom asks: the raised number is a register's, and not below the least
pub raised_fits : (least n : ℕ) → least < 32 → max least (n % 32) < 32
raised_fits least n h = omega arith

pub raised_least : (least n : ℕ) → least ≤ max least (n % 32)
raised_least least n = omega arith

-- the register of a number's five lowest bits, or the least one if that is higher
abbrev pub reg_from_of : (least : ℕ) → least < 32 → ℕ → RegFrom least
reg_from_of least h n = record { reg = record { index = max least (n % 32); fits = raised_fits least n h }; least = raised_least least n }

-- the k lowest bits
abbrev pub field_of : (k : ℕ) → ℕ → Field k
field_of k n = record { value = n % 2 ^ k; fits = mod-lt n (pow_pos k) }

-- the two parts make a number of 26 bits
pub offs26_fits : (w : ℕ) → w % 2 ^ 10 * 2 ^ 16 + w / 2 ^ 10 % 2 ^ 16 < 2 ^ 26
offs26_fits w = omega arith

-- the offset of B and BL: its highest ten bits are the word's lowest
abbrev pub offs26_of : ℕ → Field 26
offs26_of w = record { value = w % 2 ^ 10 * 2 ^ 16 + w / 2 ^ 10 % 2 ^ 16; fits = offs26_fits w }
