-- The manual's table of exceptions, and what each writes beside its codes.
use Rattle.std.specs.Prelude.{ℕ, ◌/◌, ◌^◌, Bool, Option, Some, None, ◌==◌}
use Rattle.pages.specs.declared.address.VirtAddr.{VirtAddr}
use Rattle.csr.specs.declared.exception.Cause.{Cause}
use Rattle.csr.specs.declared.exception.Cause.TheVariants as cause
use Rattle.csr.specs.declared.exception.PageFault.{PageFault}
use Rattle.csr.specs.declared.exception.PageFault.TheVariants as fault
use Rattle.csr.specs.declared.exception.Exception.{Exception}
use Rattle.csr.specs.declared.exception.Exception.TheVariants.{Int, Adef, Ale, Page, Sys, Brk, Ine, Ipe}

abbrev pub ecode : Cause → ℕ
ecode cause.Int = 0x0
ecode cause.Pil = 0x1
ecode cause.Pis = 0x2
ecode cause.Pif = 0x3
ecode cause.Pme = 0x4
ecode cause.Ppi = 0x7
ecode cause.Adef = 0x8
ecode cause.Ale = 0x9
ecode cause.Sys = 0xb
ecode cause.Brk = 0xc
ecode cause.Ine = 0xd
ecode cause.Ipe = 0xe
ecode cause.Tlbr = 0x3f

abbrev pub esubcode : Cause → ℕ
esubcode _ = 0

abbrev pub is_refill : Cause → Bool
is_refill cause = ecode cause == 0x3f

abbrev pub fault_cause : PageFault → Cause
fault_cause fault.Tlbr = cause.Tlbr
fault_cause fault.Pif = cause.Pif
fault_cause fault.Pil = cause.Pil
fault_cause fault.Pis = cause.Pis
fault_cause fault.Ppi = cause.Ppi
fault_cause fault.Pme = cause.Pme

abbrev pub cause_of : Exception → Cause
cause_of Int = cause.Int
cause_of Adef = cause.Adef
cause_of (Ale at) = cause.Ale
cause_of (Page fault at) = fault_cause fault
cause_of Sys = cause.Sys
cause_of Brk = cause.Brk
cause_of Ine = cause.Ine
cause_of Ipe = cause.Ipe

-- BADV is set by a wrong PC, a misaligned address and a fault of a page
abbrev pub bad_address : Exception → VirtAddr → Option VirtAddr
bad_address Adef pc = Some pc
bad_address (Ale at) pc = Some at
bad_address (Page fault at) pc = Some at
bad_address _ pc = None

-- a fault of a page sets TLBEHI's VPPN to the address's bits 31:13
abbrev pub faulting_page : Exception → Option ℕ
faulting_page (Page fault at) = Some (at.0 / 2 ^ 13)
faulting_page _ = None
