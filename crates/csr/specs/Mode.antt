-- CRMD, ASID and PRMD by their fields, and what an exception and a return do to the mode.
use Rattle.std.specs.Prelude.{ℕ, ◌+◌, ◌*◌, ◌^◌, false, cond, ◌==◌}
use Rattle.pages.specs.declared.privilege.Privilege.TheVariants.{Plv0}
use Rattle.pages.specs.Kinds.{plv, plv_written}
use Rattle.csr.specs.declared.exception.Cause.{Cause}
use Rattle.csr.specs.declared.mode.TranslationMode.{TranslationMode}
use Rattle.csr.specs.declared.mode.TranslationMode.TheVariants.{Direct, Mapped}
use Rattle.csr.specs.declared.mode.Mode.{Mode}
use Rattle.csr.specs.declared.previous.PreviousMode.{PreviousMode}
use Rattle.csr.specs.Words.{bit, flag, field}
use Rattle.csr.specs.Exceptions.{is_refill}

-- DA is bit 0 of the two, PG bit 1
abbrev pub da_pg : TranslationMode → ℕ
da_pg Direct = 1
da_pg Mapped = 2

-- equal ones leave both as they were
abbrev pub da_pg_written : TranslationMode → ℕ → TranslationMode
da_pg_written old number = cond (number == 1) Direct (cond (number == 2) Mapped old)

-- CRMD: PLV 1:0, IE 2, DA 3, PG 4, DATF 6:5, DATM 8:7
abbrev pub crmd : Mode → ℕ
crmd m = plv m.plv + bit m.ie * 2 ^ 2 + da_pg m.translation * 2 ^ 3 + m.datf * 2 ^ 5 + m.datm * 2 ^ 7

abbrev pub with_crmd : Mode → ℕ → Mode
with_crmd m word = record m {
  plv = plv_written m.plv (field word 0 2);
  ie = flag word 2;
  translation = da_pg_written m.translation (field word 3 2);
  datf = field word 5 2;
  datm = field word 7 2;
}

-- ASID: ASID 9:0, ASIDBITS 23:16
abbrev pub asid_word : Mode → ℕ
asid_word m = m.asid + 10 * 2 ^ 16

abbrev pub with_asid : Mode → ℕ → Mode
with_asid m word = record m { asid = field word 0 10 }

-- PRMD: PPLV 1:0, PIE 2
abbrev pub prmd : PreviousMode → ℕ
prmd p = plv p.pplv + bit p.pie * 2 ^ 2

abbrev pub with_prmd : PreviousMode → ℕ → PreviousMode
with_prmd p word = record p { pplv = plv_written p.pplv (field word 0 2); pie = flag word 2 }

-- an exception sets PLV and IE to 0, a refill DA to 1 and PG to 0 too
abbrev pub handler_mode : Mode → Cause → Mode
handler_mode m cause = record m {
  plv = Plv0;
  ie = false;
  translation = cond (is_refill cause) Direct m.translation;
}

-- ERTN restores PLV and IE, and after a refill sets DA to 0 and PG to 1
abbrev pub returned_mode : Mode → PreviousMode → Cause → Mode
returned_mode m p cause = record m {
  plv = p.pplv;
  ie = p.pie;
  translation = cond (is_refill cause) Mapped m.translation;
}
