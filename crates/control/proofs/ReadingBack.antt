-- A register read after a write is what its rows say.
use Rattle.std.proofs.Common.{◌≡◌, ℕ, ◌+◌, ◌*◌, ◌/◌, ◌%◌, ◌^◌, ◌<◌, Bool, true, false, refl, arith, lit<}
use Rattle.std.proofs.lemmas.Bool.Decides.{nat_tests}
use Rattle.csr.specs.Exceptions.{ecode}
use Rattle.csr.specs.Words.{bit, flag}
use Rattle.control.specs.declared.number.Csr.{Csr}
use Rattle.control.specs.declared.number.Csr.TheVariants.{Crmd, Prmd, Euen, Ecfg, Estat, Era, Badv, Eentry, Tlbidx, Tlbehi, Tlbelo0, Tlbelo1, Asid, Pgdl, Pgdh, Pgd, Cpuid, Save0, Save1, Save2, Save3, Tid, Tcfg, Tval, Ticlr, Llbctl, Tlbrentry, Ctag, Dmw0, Dmw1}
use Rattle.control.specs.declared.registers.Registers.{Registers}
use Rattle.control.specs.Registers.{read_of, written}
use Rattle.control.specs.Fields.{rows, read_back, ReadFits}

bit_flag : (w k : ℕ) → bit (flag w k) ≡ w / 2 ^ k % 2
bit_flag w k = grind (arith, nat_tests)

bit_small : (b : Bool) → bit b < 2
bit_small true = lit< tt
bit_small false = lit< tt

-- the software interrupts as written, the rest of ESTAT as it stood
estat_back : (w s h t e : ℕ) → s < 2 ^ 2 → h < 2 ^ 8 → t < 2 → e < 2 ^ 6
    → w / 2 ^ 0 % 2 ^ 2 + h * 2 ^ 2 + t * 2 ^ 11 + e * 2 ^ 16 + 0 * 2 ^ 22
    ≡ read_back (rows Estat) (s + h * 2 ^ 2 + t * 2 ^ 11 + e * 2 ^ 16 + 0 * 2 ^ 22) w
estat_back w s h t e s_fits h_fits t_fits e_fits = omega arith

pub reads_back : (r : Registers) (csr : Csr) (w : ℕ) → w < 2 ^ 32 → read_of r csr < 2 ^ 32 → ReadFits r csr
    → read_of (written r csr w) csr ≡ read_back (rows csr) (read_of r csr) w
reads_back r Euen w w_fits old_fits fits = refl
reads_back r Cpuid w w_fits old_fits fits = refl
reads_back r Ticlr w w_fits old_fits fits = refl
reads_back r Ctag w w_fits old_fits fits = refl
reads_back r Era w w_fits old_fits fits = omega arith
reads_back r Badv w w_fits old_fits fits = omega arith
reads_back r Eentry w w_fits old_fits fits = omega arith
reads_back r Tlbehi w w_fits old_fits fits = omega arith
reads_back r Tlbrentry w w_fits old_fits fits = omega arith
reads_back r Pgdl w w_fits old_fits fits = omega arith
reads_back r Pgdh w w_fits old_fits fits = omega arith
reads_back r Pgd w w_fits old_fits fits = omega arith
reads_back r Tid w w_fits old_fits fits = omega arith
reads_back r Tval w w_fits old_fits fits = omega arith
reads_back r Save0 w w_fits old_fits fits = omega arith
reads_back r Save1 w w_fits old_fits fits = omega arith
reads_back r Save2 w w_fits old_fits fits = omega arith
reads_back r Save3 w w_fits old_fits fits = omega arith
reads_back r Asid w w_fits old_fits fits = omega arith
reads_back r Ecfg w w_fits old_fits fits = omega (arith, bit_flag w 11, bit_flag w 12)
reads_back r Tcfg w w_fits old_fits fits = omega (arith, bit_flag w 0, bit_flag w 1)
reads_back r Tlbelo0 w w_fits old_fits fits = omega (arith, bit_flag w 0, bit_flag w 1, bit_flag w 6)
reads_back r Tlbelo1 w w_fits old_fits fits = omega (arith, bit_flag w 0, bit_flag w 1, bit_flag w 6)
reads_back r Dmw0 w w_fits old_fits fits = omega (arith, bit_flag w 0, bit_flag w 3)
reads_back r Dmw1 w w_fits old_fits fits = omega (arith, bit_flag w 0, bit_flag w 3)
reads_back r Llbctl w w_fits old_fits fits = grind (arith, nat_tests)
reads_back r Tlbidx w w_fits old_fits fits = grind (arith, nat_tests, bit_flag w 31)
reads_back r Estat w w_fits old_fits fits =
    estat_back w r.interrupts.pending.swi r.interrupts.pending.hwi (bit r.interrupts.pending.ti) (ecode r.cause)
    fits.0.0 fits.0.1 (bit_small r.interrupts.pending.ti) fits.1
reads_back r Crmd w w_fits old_fits fits = grind (arith, nat_tests, bit_flag w 2)
reads_back r Prmd w w_fits old_fits fits = grind (arith, nat_tests, bit_flag w 2)
