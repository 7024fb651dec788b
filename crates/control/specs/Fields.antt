-- The fields of each control register, and how each takes what is written to it: the law of reading back.
use Rattle.std.specs.Prelude.{◌≡◌, ℕ, ◌+◌, ◌-◌, ◌*◌, ◌^◌, ◌<◌, List, [], ◌∷◌, Bool, cond, ◌==◌, ◌||◌, Option, Some, None}
use Rattle.csr.specs.Words.{flag, field}
use Rattle.csr.specs.Exceptions.{ecode}
use Rattle.csr.specs.Interrupts.{PendingFits}
use Rattle.control.specs.declared.number.Csr.{Csr}
use Rattle.control.specs.declared.number.Csr.TheVariants.{Crmd, Prmd, Euen, Ecfg, Estat, Era, Badv, Eentry, Tlbidx, Tlbehi, Tlbelo0, Tlbelo1, Asid, Pgdl, Pgdh, Pgd, Cpuid, Save0, Save1, Save2, Save3, Tid, Tcfg, Tval, Ticlr, Llbctl, Tlbrentry, Ctag, Dmw0, Dmw1}
use Rattle.control.specs.declared.registers.Registers.{Registers}
use Rattle.control.specs.Registers.{pgd, read_of}

-- a field by its highest and its lowest bit, with what it holds after a write, of what it held and what is written there
abbrev pub Row : Type 0
Row = ℕ × ℕ × (ℕ → ℕ → ℕ)

abbrev pub read_write : ℕ → ℕ → ℕ
read_write old new = new

abbrev pub read_only : ℕ → ℕ → ℕ
read_only old new = old

abbrev pub if_legal : (ℕ → Bool) → ℕ → ℕ → ℕ
if_legal legal old new = cond (legal new) new old

abbrev pub one_of : ℕ → ℕ → ℕ → Bool
one_of a b new = (new == a) || (new == b)

-- PLV0 and PLV3
abbrev pub privilege : ℕ → ℕ → ℕ
privilege = if_legal (one_of 0 3)

-- DA and PG, which differ
abbrev pub mode_bits : ℕ → ℕ → ℕ
mode_bits = if_legal (one_of 1 2)

abbrev pub page_size : ℕ → ℕ → ℕ
page_size = if_legal (one_of 12 21)

-- WCLLB and ROLLB: writing 1 to the first makes the second 0
abbrev pub link_bits : ℕ → ℕ → ℕ
link_bits old new = cond (flag new 1) 0 old

abbrev pub tlbelo_rows : List Row
tlbelo_rows = (0, 0, read_write) ∷ (1, 1, read_write) ∷ (3, 2, read_write) ∷ (5, 4, read_write) ∷ (6, 6, read_write) ∷ (27, 8, read_write) ∷ []

abbrev pub dmw_rows : List Row
dmw_rows = (0, 0, read_write) ∷ (3, 3, read_write) ∷ (5, 4, read_write) ∷ (27, 25, read_write) ∷ (31, 29, read_write) ∷ []

-- bits of no row read 0
abbrev pub rows : Csr → List Row
rows Crmd = (1, 0, privilege) ∷ (2, 2, read_write) ∷ (4, 3, mode_bits) ∷ (6, 5, read_write) ∷ (8, 7, read_write) ∷ []
rows Prmd = (1, 0, privilege) ∷ (2, 2, read_write) ∷ []
rows Euen = []
rows Ecfg = (9, 0, read_write) ∷ (12, 11, read_write) ∷ []
rows Estat = (1, 0, read_write) ∷ (9, 2, read_only) ∷ (11, 11, read_only) ∷ (21, 16, read_only) ∷ (30, 22, read_only) ∷ []
rows Era = (31, 0, read_write) ∷ []
rows Badv = (31, 0, read_write) ∷ []
rows Eentry = (31, 6, read_write) ∷ []
rows Tlbidx = (3, 0, read_write) ∷ (29, 24, page_size) ∷ (31, 31, read_write) ∷ []
rows Tlbehi = (31, 13, read_write) ∷ []
rows Tlbelo0 = tlbelo_rows
rows Tlbelo1 = tlbelo_rows
rows Asid = (9, 0, read_write) ∷ (23, 16, read_only) ∷ []
rows Pgdl = (31, 12, read_write) ∷ []
rows Pgdh = (31, 12, read_write) ∷ []
rows Pgd = (31, 12, read_only) ∷ []
rows Cpuid = []
rows Save0 = (31, 0, read_write) ∷ []
rows Save1 = (31, 0, read_write) ∷ []
rows Save2 = (31, 0, read_write) ∷ []
rows Save3 = (31, 0, read_write) ∷ []
rows Tid = (31, 0, read_write) ∷ []
rows Tcfg = (0, 0, read_write) ∷ (1, 1, read_write) ∷ (31, 2, read_write) ∷ []
rows Tval = (31, 0, read_only) ∷ []
rows Ticlr = []
rows Llbctl = (1, 0, link_bits) ∷ []
rows Tlbrentry = (31, 6, read_write) ∷ []
rows Ctag = []
rows Dmw0 = dmw_rows
rows Dmw1 = dmw_rows

abbrev pub row_after : Row → ℕ → ℕ → ℕ
row_after row old word =
    row.2 (field old row.1 (row.0 + 1 - row.1)) (field word row.1 (row.0 + 1 - row.1)) * 2 ^ row.1

-- what a register of those rows reads after a write, of what it read before and what was written
abbrev pub read_back : List Row → ℕ → ℕ → ℕ
read_back [] old word = 0
read_back (row ∷ rest) old word = row_after row old word + read_back rest old word

-- needed where a write leaves a field as it was (PS, IS, Ecode, ASIDBITS, PGD's Base): the old word shows that field only if the parts
-- of the word have no more bits than their rows. A record does not show that its numbers fit their widths; a value that was read does,
-- and the law of reading back needs it.
abbrev pub ReadFits : Registers → Csr → Type 0
ReadFits r Estat = PendingFits r.interrupts.pending × (ecode r.cause < 2 ^ 6)
ReadFits r Tlbidx = r.tlb_registers.index < 2 ^ 4
ReadFits r Asid = r.mode.asid < 2 ^ 10
ReadFits r Pgd = (pgd r).0 < 2 ^ 20
ReadFits r _ = Unit {0}

-- the law of reading back: a register that was written reads as its rows say; a number that names none changes nothing
abbrev pub ReadsBack : Registers → Registers → Option Csr → ℕ → Type 0
ReadsBack old new None word = new ≡ old
ReadsBack old new (Some csr) word = read_of new csr ≡ read_back (rows csr) (read_of old csr) word
