-- What a line of a set-up does, and what a whole text does.
use Rattle.std.specs.Prelude.{◌≡◌, ℕ, ◌+◌, ◌-◌, ◌^◌, min, cond, List, [], ◌∷◌, ◌++◌, Some, None, Option, Ok, Err, Result}
use Rattle.bus.specs.declared.refusal.Refusal.{Refusal}
use Rattle.bus.specs.Memory.{Memory, write_of, answer_of, memory_after}
use Rattle.numerals.specs.Hexadecimal.{hex_value}
use Rattle.numerals.specs.Decimal.{decimal_value}
use Rattle.setup.specs.Lines.{Form, write, run, register, form_of}
use Rattle.machine.specs.declared.answers.RunReport.{RunReport}
use Rattle.machine.specs.declared.answers.CallRefusal.{CallRefusal}
use Rattle.machine.specs.declared.state.State.{State}
use Rattle.machine.specs.Outcomes.{Outcome}
use Rattle.machine.specs.State.{reset_state}
use Rattle.machine.specs.Calls as core
use Rattle.session.specs.declared.answer.LineAnswer.TheVariants.{Written, Ran, Register}
use Rattle.session.specs.declared.answer.LineRefusal.TheVariants.{NoForm, OutOfPlace, Bus, Call, ListingFull}
use Rattle.session.specs.declared.session.Session.{Session}
use Rattle.session.specs.declared.session.Stage.{Stage}
use Rattle.session.specs.declared.session.Stage.TheVariants.{Unreset, Running}
use Rattle.session.specs.Answers.{LineResult}
use Rattle.session.specs.Listings.{Contents, is_full, told}

-- how far a session has come: the core by its stage, what the board means, and how many lines were read
pub record Progress : Type 0 where
  pub stage : Stage
  pub memory : Memory
  pub lines_read : ℕ

abbrev pub progress : {B : Type 0} → (B → Memory) → Session B → Progress
progress byte s = record { stage = s.stage; memory = byte s.board; lines_read = s.lines_read }

-- no line was read, and the core was never reset
abbrev pub fresh : Memory → Progress
fresh m = record { stage = Unreset (record {}); memory = m; lines_read = 0 }

-- what a line answers, and how far the session has come then
pub record Handled : Type 0 where
  pub answer : LineResult
  pub after : Progress

abbrev pub handled : LineResult → Progress → Handled
handled answer p = record { answer = answer; after = p }

abbrev pub write_answer : Result (Unit {0}) Refusal → LineResult
write_answer (Ok _) = Ok Written
write_answer (Err e) = Err (Bus e)

abbrev pub wrote : Progress → Result Memory Refusal → Handled
wrote p r = handled (write_answer (answer_of r)) (record p { memory = memory_after p.memory r })

-- a word is written before the first run only
abbrev pub write_by_stage : Stage → Progress → ℕ → ℕ → Handled
write_by_stage (Unreset u) p at word = wrote p (write_of p.memory at 4 word)
write_by_stage (Running s) p at word = handled (Err OutOfPlace) p

abbrev pub write_word : Progress → ℕ → ℕ → Handled
write_word p at word = write_by_stage p.stage p at word

-- the first run begins with a core that was reset
abbrev pub core_to_run : Stage → State
core_to_run (Unreset u) = reset_state
core_to_run (Running s) = s

abbrev pub run_answer : State → Result RunReport CallRefusal → LineResult
run_answer s (Ok report) = Ok (Ran report s.user.pc)
run_answer s (Err e) = Err (Call e)

abbrev pub ran : Progress → Outcome (Result RunReport CallRefusal) → Handled
ran p o = handled (run_answer o.state o.answer) (record p { stage = Running o.state; memory = o.memory })

-- with all levels 0
abbrev pub run_core : Progress → ℕ → Handled
run_core p count = ran p (core.run (core_to_run p.stage) count 0 p.memory)

abbrev pub register_answer : ℕ → Result ℕ CallRefusal → LineResult
register_answer number (Ok value) = Ok (Register number value)
register_answer number (Err e) = Err (Call e)

-- a register is read after the first run only
abbrev pub register_by_stage : Stage → ℕ → LineResult
register_by_stage (Unreset u) number = Err OutOfPlace
register_by_stage (Running s) number = register_answer number (core.register_read s number)

abbrev pub read_register : Progress → ℕ → Handled
read_register p number = handled (register_by_stage p.stage number) p

abbrev pub perform_form : Progress → Option Form → Handled
perform_form p None = handled (Err NoForm) p
perform_form p (Some (write address word)) = write_word p (hex_value address) (hex_value word)
perform_form p (Some (run count)) = run_core p (decimal_value count)
perform_form p (Some (register number)) = read_register p (decimal_value number)

abbrev pub perform : Progress → List ℕ → Handled
perform p line = perform_form p (form_of line)

-- lines are counted from 1, up to the greatest number of 32 bits
abbrev pub counted : Progress → Progress
counted p = record p { lines_read = min (p.lines_read + 1) (2 ^ 32 - 1) }

-- a line that is read
abbrev pub read_line : Progress → List ℕ → Handled
read_line p line = perform (counted p) line

abbrev pub handle : Progress → Contents → List ℕ → Handled
handle p listing line = cond (is_full listing) (handled (Err ListingFull) p) (read_line p line)

-- what a line that was read writes into the listing
abbrev pub line_told : Handled → List ℕ
line_told h = told h.after.lines_read h.answer

-- lines one after the other: what they write in all, and how far the session has come then
abbrev pub lines_told : Progress → List (List ℕ) → List ℕ
lines_told p [] = []
lines_told p (line ∷ lines) = line_told (read_line p line) ++ lines_told (read_line p line).after lines

abbrev pub after_lines : Progress → List (List ℕ) → Progress
after_lines p [] = p
after_lines p (line ∷ lines) = after_lines (read_line p line).after lines

-- a text was left at one of its lines: those up to it were handled, and it too, and no other
abbrev pub LeftAt : Progress → List (List ℕ) → Progress → Type 0
LeftAt p lines q =
    (done : List (List ℕ)) × (line : List ℕ) × (left : List (List ℕ)) × (done ++ (line ∷ left) ≡ lines) × (q ≡ after_lines p (done ++ (line ∷ [])))
