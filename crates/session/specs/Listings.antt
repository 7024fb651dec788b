-- The lines of a listing.
use Rattle.std.specs.Prelude.{ℕ, Bool, List, [], ◌∷◌, ◌++◌, length, take, drop, codes, decimal, nat_lt, Some, None, Option, Ok, Err}
use Rattle.pages.specs.declared.address.VirtAddr.{VirtAddr}
use Rattle.numerals.specs.Hexadecimal.{hex_text}
use Rattle.machine.specs.declared.answers.RunReport.{RunReport}
use Rattle.machine.specs.declared.answers.StepRefusal.{StepRefusal}
use Rattle.machine.specs.Answers.{step_refusal_number}
use Rattle.session.specs.declared.answer.LineAnswer.TheVariants.{Written, Ran, Register}
use Rattle.session.specs.declared.answer.LineRefusal.TheVariants.{ListingFull}
use Rattle.session.specs.declared.listing.Listing.{Listing}
use Rattle.session.specs.Answers.{LineResult, line_refusal_number}

-- a name and two fields, parted by commas
abbrev pub comma_line : List ℕ → List ℕ → List ℕ → List ℕ
comma_line name first second = name ++ (codes "," ++ (first ++ (codes "," ++ (second ++ (10 ∷ [])))))

abbrev pub run_line : ℕ → ℕ → List ℕ
run_line steps pc = comma_line (codes "run") (decimal steps) (hex_text pc)

abbrev pub register_line : ℕ → ℕ → List ℕ
register_line number value = comma_line (codes "reg") (decimal number) (hex_text value)

abbrev pub refusal_line : ℕ → ℕ → List ℕ
refusal_line line number = comma_line (codes "no") (decimal line) (decimal number)

-- of a run that was cut short
abbrev pub cut_line : ℕ → Option StepRefusal → List ℕ
cut_line line None = []
cut_line line (Some e) = refusal_line line (step_refusal_number e)

abbrev pub report_lines : ℕ → RunReport → VirtAddr → List ℕ
report_lines line report pc = run_line report.steps pc.0 ++ cut_line line report.refusal

-- what the listing tells of a line of the set-up that answered so
abbrev pub told : ℕ → LineResult → List ℕ
told line (Ok Written) = []
told line (Ok (Ran report pc)) = report_lines line report pc
told line (Ok (Register number value)) = register_line number value
told line (Err ListingFull) = []
told line (Err e) = refusal_line line (line_refusal_number e)

-- what a listing's memory holds: what is written, and behind it the bytes that are free
pub record Contents : Type 0 where
  pub written : List ℕ
  pub free : List ℕ

abbrev pub contents : Listing → Contents
contents l = record { written = take l.used l.memory.now; free = drop l.used l.memory.now }

-- the text stands behind what was written, and the bytes behind it are as they were
abbrev pub with_text : Contents → List ℕ → Contents
with_text c text = record { written = c.written ++ text; free = drop (length text) c.free }

-- fewer than 40 bytes are free
abbrev pub is_full : Contents → Bool
is_full c = nat_lt (length c.free) 40
