-- ESTAT.IS and ECFG by their fields, and when an interrupt is due.
use Rattle.std.specs.Prelude.{ℕ, ◌+◌, ◌*◌, ◌^◌, ◌<◌, Bool, nat_lt, bit_and}
use Rattle.csr.specs.declared.interrupts.Pending.{Pending}
use Rattle.csr.specs.declared.interrupts.Enabled.{Enabled}
use Rattle.csr.specs.declared.interrupts.Interrupts.{Interrupts}
use Rattle.csr.specs.Words.{bit, flag, field}

-- IS: software interrupts 1:0, hardware lines 9:2, timer 11
abbrev pub pending_bits : Pending → ℕ
pending_bits p = p.swi + p.hwi * 2 ^ 2 + bit p.ti * 2 ^ 11

-- swi has 2 bits, hwi 8
abbrev pub PendingFits : Pending → Type 0
PendingFits p = (p.swi < 2 ^ 2) × (p.hwi < 2 ^ 8)

abbrev pub with_swi : Pending → ℕ → Pending
with_swi p word = record p { swi = field word 0 2 }

-- LIE: 9:0 and 12:11
abbrev pub enabled_bits : Enabled → ℕ
enabled_bits e = e.swi + e.hwi * 2 ^ 2 + bit e.ti * 2 ^ 11 + bit e.ipi * 2 ^ 12

abbrev pub enabled_of : ℕ → Enabled
enabled_of word = record { swi = field word 0 2; hwi = field word 2 8; ti = flag word 11; ipi = flag word 12 }

-- an interrupt is due if IS and LIE share a 1
abbrev pub due : Interrupts → Bool
due i = nat_lt 0 (bit_and (pending_bits i.pending) (enabled_bits i.enabled))
