-- CSRRD, CSRWR and CSRXCHG: an undefined register reads 0 and ignores writes.
use Rattle.std.specs.Prelude.{ℕ, ◌-◌, ◌^◌, Option, Some, None, bit_and, bit_or}
use Rattle.control.specs.declared.number.Csr.{Csr}
use Rattle.control.specs.declared.registers.Registers.{Registers}
use Rattle.control.specs.Registers.{read_of, written}

abbrev pub csrrd : Registers → Option Csr → ℕ
csrrd r None = 0
csrrd r (Some csr) = read_of r csr

abbrev pub csrwr : Registers → Option Csr → ℕ → Registers
csrwr r None word = r
csrwr r (Some csr) word = written r csr word

-- the bits of the word where the mask is 1, and what was read elsewhere
abbrev pub exchanged : ℕ → ℕ → ℕ → ℕ
exchanged old word mask = bit_or (bit_and old (2 ^ 32 - 1 - mask)) (bit_and word mask)

abbrev pub csrxchg : Registers → Option Csr → ℕ → ℕ → Registers
csrxchg r csr word mask = csrwr r csr (exchanged (csrrd r csr) word mask)
