-- The first set-up's listing, by the definitions.
use Rattle.std.proofs.Common.{◌≡◌, refl, ap, ◌∙◌, ℕ, ◌%◌, List, [], ◌∷◌, ◌++◌, replicate, slice_index, codes, decimal, arith, Ok}
use Rattle.std.proofs.lemmas.Fmt.{decimal_digit}
use Rattle.std.proofs.lemmas.List.{length-replicate}
use Rattle.bus.specs.Cell.{writable}
use Rattle.bus.specs.Memory.{Memory, put}
use Rattle.bus.specs.Board.{cells_from, part_cells}
use Rattle.parts.specs.Parts.{byte_cell}
use Rattle.machine.specs.declared.answers.RunReport.{RunReport}
use Rattle.machine.specs.Outcomes.{Outcome, outcome, with_answer}
use Rattle.machine.specs.State.{reset_state}
use Rattle.machine.specs.Step.{run_of}
use Rattle.machine.proofs.FirstProgram.{sum_3, three, three_steps}
use Rattle.setup.specs.Text.{lines_of}
use Rattle.session.specs.declared.session.Stage.TheVariants.{Unreset}
use Rattle.session.specs.Listings.{comma_line}
use Rattle.session.specs.Sessions.{Handled, fresh, ran, line_told, lines_told, after_lines}
use Rattle.session.specs.WholeText.{board}
use Rattle.session.specs.Worked.{addition_text, addition_listing_text, register_left, WorkedSetUp}

-- a bank, and what it holds once the three lines that write words are read
abbrev bank_of : (ℕ → ℕ) → Memory
bank_of f = cells_from 0x1c000000 32768 (λ k. writable (f k))

abbrev loaded : (ℕ → ℕ) → Memory
loaded f = put (put (put (bank_of f) 0x1c000000 4 0x02bffc04) 0x1c000004 4 0x00101085) 0x1c000008 4 0x50000000

run_loaded : (f : ℕ → ℕ) → run_of 3 0 reset_state (loaded f) ≡ outcome three sum_3 (loaded f)
run_loaded f = three_steps (loaded f) refl refl refl

-- the line that runs, if the run comes to that
abbrev ran_to : (ℕ → ℕ) → Outcome RunReport → Handled
ran_to f o = ran (record { stage = Unreset (record {}); memory = loaded f; lines_read = 4 }) (with_answer Ok o)

-- the line behind it
abbrev last_line : List (List ℕ)
last_line = codes "r,5\n" ∷ []

-- the listing with these two numbers in decimal digits
abbrev listing_with : List ℕ → List ℕ → List ℕ
listing_with steps number = (comma_line (codes "run") steps (codes "1C000008") ++ []) ++ (comma_line (codes "reg") number (codes "FFFFFFFE") ++ [])

listing_on : (f : ℕ → ℕ) → lines_told (fresh (bank_of f)) (lines_of addition_text) ≡ addition_listing_text
listing_on f =
    ap (λ o. line_told (ran_to f o) ++ lines_told (ran_to f o).after last_line) (run_loaded f)
    ∙ ap (λ steps. listing_with steps (decimal 5)) (decimal_digit 3 (omega arith))
    ∙ ap (λ number. listing_with (codes "3") number) (decimal_digit 5 (omega arith))

r4_on : (f : ℕ → ℕ) → register_left (after_lines (fresh (bank_of f)) (lines_of addition_text)) 4 ≡ 0xffffffff
r4_on f = ap (λ o. register_left (after_lines (ran_to f o).after last_line) 4) (run_loaded f)

-- the bytes of the bank's memory at first
abbrev zero_bytes : ℕ → ℕ
zero_bytes k = slice_index (replicate 32768 0) k % 256

-- the length of the bank's memory is known by a lemma, not by counting
the_bank : board ≡ bank_of zero_bytes
the_bank = ap (λ n. part_cells 0x1c000000 n (byte_cell writable (replicate 32768 0))) (length-replicate {A = ℕ} 32768 0)

addition_listing : lines_told (fresh board) (lines_of addition_text) ≡ addition_listing_text
addition_listing = ap (λ m. lines_told (fresh m) (lines_of addition_text)) the_bank ∙ listing_on zero_bytes

pub worked_set_up : WorkedSetUp
worked_set_up = record {
  listing = addition_listing;
  r4 = ap (λ m. register_left (after_lines (fresh m) (lines_of addition_text)) 4) the_bank ∙ r4_on zero_bytes;
}
