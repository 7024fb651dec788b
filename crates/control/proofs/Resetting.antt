-- What each register reads after reset.
use Rattle.std.proofs.Common.{◌≡◌, refl}
use Rattle.control.specs.declared.number.Csr.{Csr}
use Rattle.control.specs.declared.number.Csr.TheVariants.{Crmd, Prmd, Euen, Ecfg, Estat, Era, Badv, Eentry, Tlbidx, Tlbehi, Tlbelo0, Tlbelo1, Asid, Pgdl, Pgdh, Pgd, Cpuid, Save0, Save1, Save2, Save3, Tid, Tcfg, Tval, Ticlr, Llbctl, Tlbrentry, Ctag, Dmw0, Dmw1}
use Rattle.control.specs.Registers.{read_of}
use Rattle.control.specs.Reset.{reset_registers, reset_word}

pub reads_as_reset : (csr : Csr) → read_of reset_registers csr ≡ reset_word csr
reads_as_reset Crmd = refl
reads_as_reset Prmd = refl
reads_as_reset Euen = refl
reads_as_reset Ecfg = refl
reads_as_reset Estat = refl
reads_as_reset Era = refl
reads_as_reset Badv = refl
reads_as_reset Eentry = refl
reads_as_reset Tlbidx = refl
reads_as_reset Tlbehi = refl
reads_as_reset Tlbelo0 = refl
reads_as_reset Tlbelo1 = refl
reads_as_reset Asid = refl
reads_as_reset Pgdl = refl
reads_as_reset Pgdh = refl
reads_as_reset Pgd = refl
reads_as_reset Cpuid = refl
reads_as_reset Save0 = refl
reads_as_reset Save1 = refl
reads_as_reset Save2 = refl
reads_as_reset Save3 = refl
reads_as_reset Tid = refl
reads_as_reset Tcfg = refl
reads_as_reset Tval = refl
reads_as_reset Ticlr = refl
reads_as_reset Llbctl = refl
reads_as_reset Tlbrentry = refl
reads_as_reset Ctag = refl
reads_as_reset Dmw0 = refl
reads_as_reset Dmw1 = refl
