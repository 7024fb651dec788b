-- Why a line is refused, and what it leaves.
use Rattle.std.specs.Prelude.{◌≡◌, ℕ, ◌<◌, Bool, true, false, List, Ok, Err}
use Rattle.bus.specs.declared.refusal.Refusal.{Refusal}
use Rattle.bus.specs.Rules.{WriteRule}
use Rattle.numerals.specs.Hexadecimal.{hex_value}
use Rattle.numerals.specs.Decimal.{decimal_value}
use Rattle.setup.specs.Lines.{Form, write, run, register, IsLineOf}
use Rattle.machine.specs.declared.answers.CallRefusal.TheVariants.{NoRegister, RunTooLong}
use Rattle.machine.specs.Calls.{most_steps}
use Rattle.session.specs.declared.answer.LineAnswer.TheVariants.{Register}
use Rattle.session.specs.declared.answer.LineRefusal.{LineRefusal}
use Rattle.session.specs.declared.answer.LineRefusal.TheVariants.{NoForm, OutOfPlace, Bus, Call, ListingFull}
use Rattle.session.specs.declared.session.Stage.{Stage}
use Rattle.session.specs.declared.session.Stage.TheVariants.{Unreset, Running}
use Rattle.session.specs.Answers.{LineResult}
use Rattle.session.specs.Listings.{Contents, is_full}
use Rattle.session.specs.Sessions.{Progress, core_to_run, counted}

-- a `w` after the first `g`, or an `r` before it
abbrev pub is_out_of_place : Form → Stage → Bool
is_out_of_place (write address word) (Unreset u) = false
is_out_of_place (write address word) (Running s) = true
is_out_of_place (run count) stage = false
is_out_of_place (register number) (Unreset u) = true
is_out_of_place (register number) (Running s) = false

-- why a line is refused, in the order in which refusals come
pub data Why (p : Progress) (listing : Contents) (line : List ℕ) : LineRefusal → Type 0 where
  full : is_full listing ≡ true → Why p listing line ListingFull
  no_form : is_full listing ≡ false → ((f : Form) → IsLineOf f line → ⊥) → Why p listing line NoForm
  out_of_place : (f : Form) → is_full listing ≡ false → IsLineOf f line → is_out_of_place f p.stage ≡ true → Why p listing line OutOfPlace
  by_bus : (address word : List ℕ) (e : Refusal) → is_full listing ≡ false → IsLineOf (write address word) line → is_out_of_place (write address word) p.stage ≡ false
      → WriteRule p.memory (hex_value address) 4 (hex_value word) (Err e) p.memory → Why p listing line (Bus e)
  no_register : (number : List ℕ) → is_full listing ≡ false → IsLineOf (register number) line → is_out_of_place (register number) p.stage ≡ false → 31 < decimal_value number
      → Why p listing line (Call NoRegister)
  too_long : (count : List ℕ) → is_full listing ≡ false → IsLineOf (run count) line → most_steps < decimal_value count → Why p listing line (Call RunTooLong)

-- a refused line leaves core and memory and is counted, but a run that is too long has reset a core that was never reset, and a line
-- that found the listing full leaves all as it was
abbrev pub left_by : LineRefusal → Progress → Progress
left_by ListingFull p = p
left_by (Call RunTooLong) p = record (counted p) { stage = Running (core_to_run p.stage) }
left_by _ p = counted p

pub record Refused (e : LineRefusal) (p : Progress) (listing : Contents) (line : List ℕ) (q : Progress) : Type 0 where
  pub reason : Why p listing line e
  pub leaves : q ≡ left_by e p

-- an answer that comes without a call of the bus
abbrev pub asks_no_bus : LineResult → Bool
asks_no_bus (Ok (Register number value)) = true
asks_no_bus (Ok _) = false
asks_no_bus (Err (Bus e)) = false
asks_no_bus (Err _) = true
