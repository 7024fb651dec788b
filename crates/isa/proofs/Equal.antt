-- Register numbers and fields are equal where their numbers are.
use Rattle.std.proofs.Common.{◌≡◌, ℕ, ◌^◌, ◌<◌, ◌≤◌}
use mathlib.Core.HLevel.{is_prop→PathP}
use native.Mathlib.Bridge.{le_prop}
use Rattle.isa.specs.declared.register.Reg.{Reg}
use Rattle.isa.specs.declared.least_register.RegFrom.{RegFrom}
use Rattle.isa.specs.declared.field.Field.{Field}

pub reg_ext : (a b : Reg) → a.index ≡ b.index → a ≡ b
reg_ext a b e = λ i. record { index = e i; fits = is_prop→PathP (λ j. e j < 32) (λ j. le_prop) a.fits b.fits i }

pub reg_from_ext : (least : ℕ) (a b : RegFrom least) → a.reg.index ≡ b.reg.index → a ≡ b
unfolding reg_ext
reg_from_ext least a b e = λ i. record { reg = reg_ext a.reg b.reg e i; least = is_prop→PathP (λ j. least ≤ e j) (λ j. le_prop) a.least b.least i }

pub field_ext : (k : ℕ) (a b : Field k) → a.value ≡ b.value → a ≡ b
field_ext k a b e = λ i. record { value = e i; fits = is_prop→PathP (λ j. e j < 2 ^ k) (λ j. le_prop) a.fits b.fits i }
