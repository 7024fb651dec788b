-- The numbers of the control registers.
use Rattle.std.specs.Prelude.{ℕ, List, [], ◌∷◌, cond, ◌==◌, Option, Some, None}
use Rattle.control.specs.declared.number.Csr.{Csr}
use Rattle.control.specs.declared.number.Csr.TheVariants.{Crmd, Prmd, Euen, Ecfg, Estat, Era, Badv, Eentry, Tlbidx, Tlbehi, Tlbelo0, Tlbelo1, Asid, Pgdl, Pgdh, Pgd, Cpuid, Save0, Save1, Save2, Save3, Tid, Tcfg, Tval, Ticlr, Llbctl, Tlbrentry, Ctag, Dmw0, Dmw1}

abbrev pub numbers : List (ℕ × Csr)
numbers =
    (0x0, Crmd)
    ∷ (0x1, Prmd)
    ∷ (0x2, Euen)
    ∷ (0x4, Ecfg)
    ∷ (0x5, Estat)
    ∷ (0x6, Era)
    ∷ (0x7, Badv)
    ∷ (0xc, Eentry)
    ∷ (0x10, Tlbidx)
    ∷ (0x11, Tlbehi)
    ∷ (0x12, Tlbelo0)
    ∷ (0x13, Tlbelo1)
    ∷ (0x18, Asid)
    ∷ (0x19, Pgdl)
    ∷ (0x1a, Pgdh)
    ∷ (0x1b, Pgd)
    ∷ (0x20, Cpuid)
    ∷ (0x30, Save0)
    ∷ (0x31, Save1)
    ∷ (0x32, Save2)
    ∷ (0x33, Save3)
    ∷ (0x40, Tid)
    ∷ (0x41, Tcfg)
    ∷ (0x42, Tval)
    ∷ (0x44, Ticlr)
    ∷ (0x60, Llbctl)
    ∷ (0x88, Tlbrentry)
    ∷ (0x98, Ctag)
    ∷ (0x180, Dmw0)
    ∷ (0x181, Dmw1)
    ∷ []

-- the register of that number in a table
abbrev pub register_at : ℕ → List (ℕ × Csr) → Option Csr
register_at n [] = None
register_at n (row ∷ rows) = cond (n == row.0) (Some row.1) (register_at n rows)

abbrev pub csr_numbered : ℕ → Option Csr
csr_numbered n = register_at n numbers
