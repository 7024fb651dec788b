-- Why a line is refused, and what it leaves.
use Rattle.std.proofs.Common.{◌≡◌, refl, ap, sym, ◌∙◌, ℕ, Bool, true, false, List, Some, None, Option, Ok, Err, Result, cond, nat_lt}
use Rattle.std.specs.Prelude.{IfErr}
use Rattle.std.proofs.lemmas.Bool.{ltb-true, ltb-false}
use Rattle.std.proofs.lemmas.Option.{none-some}
use Rattle.bus.specs.declared.refusal.Refusal.{Refusal}
use Rattle.bus.specs.Memory.{Memory, write_of, answer_of, memory_after}
use Rattle.bus.proofs.Ruling.{write_rule}
use Rattle.isa.specs.Fields.{reg_of}
use Rattle.actions.specs.Registers.{gr}
use Rattle.numerals.specs.Hexadecimal.{hex_value}
use Rattle.numerals.specs.Decimal.{decimal_value}
use Rattle.setup.specs.Lines.{Form, write, run, register, IsLineOf, form_of}
use Rattle.setup.proofs.Forms.{exact}
use Rattle.machine.specs.declared.answers.CallRefusal.TheVariants.{NoRegister}
use Rattle.machine.specs.Calls.{most_steps, by_length}
use Rattle.session.specs.declared.session.Stage.{Stage}
use Rattle.session.specs.declared.session.Stage.TheVariants.{Unreset, Running}
use Rattle.session.specs.Listings.{Contents, is_full}
use Rattle.session.specs.Sessions.{Progress, Handled, handled, wrote, write_by_stage, core_to_run, ran, register_answer, register_by_stage, perform_form, counted, read_line}
use Rattle.session.specs.Refused.{is_out_of_place, no_form, out_of_place, by_bus, too_long, no_register, Refused}

module _ (p : Progress) (listing : Contents) (line : List ℕ) (room : is_full listing ≡ false) where
  abbrev IfRefused : Handled → Type 0
  IfRefused h = IfErr h.answer (λ e. Refused e p listing line h.after)

  by_write : (address value : List ℕ) → IsLineOf (write address value) line → is_out_of_place (write address value) p.stage ≡ false → (r : Result Memory Refusal)
      → write_of p.memory (hex_value address) 4 (hex_value value) ≡ r → IfRefused (wrote (counted p) r)
  by_write address value is here (Ok n) e = tt
  by_write address value is here (Err x) e = record {
    reason = by_bus address value x room is here (write_rule p.memory (hex_value address) 4 (hex_value value) (Err x) p.memory (record { answer = sym (ap answer_of e); after = sym (ap (memory_after p.memory) e) }));
    leaves = refl;
  }

  by_stage : (address value : List ℕ) → IsLineOf (write address value) line → (stage : Stage) → p.stage ≡ stage → IfRefused (write_by_stage stage (counted p) (hex_value address) (hex_value value))
  by_stage address value is (Unreset u) e = by_write address value is (ap (is_out_of_place (write address value)) e) (write_of p.memory (hex_value address) 4 (hex_value value)) refl
  by_stage address value is (Running s) e = record { reason = out_of_place (write address value) room is (ap (is_out_of_place (write address value)) e); leaves = refl }

  by_count : (count : List ℕ) → IsLineOf (run count) line → (long : Bool) → nat_lt most_steps (decimal_value count) ≡ long
      → IfRefused (ran (counted p) (by_length long (decimal_value count) 0 (core_to_run p.stage) p.memory))
  by_count count is true e = record { reason = too_long count room is (ltb-true most_steps (decimal_value count) e); leaves = refl }
  by_count count is false e = tt

  by_number : (number : List ℕ) (value : ℕ) → IsLineOf (register number) line → is_out_of_place (register number) p.stage ≡ false → (fits : Bool) → nat_lt (decimal_value number) 32 ≡ fits
      → IfRefused (handled (register_answer (decimal_value number) (cond fits (Ok value) (Err NoRegister))) (counted p))
  by_number number value is here true e = tt
  by_number number value is here false e = record { reason = no_register number room is here (ltb-false (decimal_value number) 32 e); leaves = refl }

  by_register : (number : List ℕ) → IsLineOf (register number) line → (stage : Stage) → p.stage ≡ stage → IfRefused (handled (register_by_stage stage (decimal_value number)) (counted p))
  by_register number is (Unreset u) e = record { reason = out_of_place (register number) room is (ap (is_out_of_place (register number)) e); leaves = refl }
  by_register number is (Running s) e = by_number number (gr s.user.general (reg_of (decimal_value number))) is (ap (is_out_of_place (register number)) e) (nat_lt (decimal_value number) 32) refl

  by_form : (f : Option Form) → form_of line ≡ f → IfRefused (perform_form (counted p) f)
  by_form None e = record { reason = no_form room (λ f is. none-some f (sym e ∙ (exact line).complete f is)); leaves = refl }
  by_form (Some (write address value)) e = by_stage address value ((exact line).sound (write address value) e) p.stage refl
  by_form (Some (run count)) e = by_count count ((exact line).sound (run count) e) (nat_lt most_steps (decimal_value count)) refl
  by_form (Some (register number)) e = by_register number ((exact line).sound (register number) e) p.stage refl

  pub refused : IfRefused (read_line p line)
  refused = by_form (form_of line) refl
