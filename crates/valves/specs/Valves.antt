-- The valve block: what a program sees of it, and what an order comes to.
use Rattle.std.proofs.Common.{◌∙◌, arith, lit<}
use Rattle.std.specs.Prelude.{ℕ, ◌+◌, ◌-◌, ◌/◌, ◌%◌, ◌^◌, ◌<◌, ◌≡◌, Bool, not, ◌||◌, cond, Some, None, Option, ◌==◌, nat_lt, min}
use Rattle.std.proofs.lemmas.Bool.{cond-false, cond_both, ne_eqb}
use Rattle.bus.specs.Cell.{absent, fixed, writable}
use Rattle.bus.specs.Memory.{Memory, Sound, held, value_at, byte_of}
use Rattle.valves.specs.declared.valves.Status.{Status}
use Rattle.valves.specs.declared.valves.Status.TheVariants.{Ready, Poured, NoChannel}
use Rattle.valves.specs.declared.valves.Pour.{Pour}
use Rattle.valves.specs.declared.valves.Valves.{Valves}

abbrev pub status_number : Status → ℕ
status_number Ready = 0
status_number Poured = 1
status_number NoChannel = 2

-- channel and shots, open; what was poured and the status, fixed; and nothing else
abbrev pub valve_cells : Valves → Memory
valve_cells v a =
    cond (a / 4 == 0) (writable (byte_of v.channel (a % 4)))
    (cond (a / 4 == 1) (writable (byte_of v.shots (a % 4)))
    (cond (a / 4 == 2) (fixed (byte_of v.poured (a % 4)))
    (cond (a / 4 == 3) (fixed (byte_of (status_number v.status) (a % 4)))
    absent)))

abbrev pub at_rest : Valves
at_rest = record { channel = 0; shots = 0; poured = 0; status = Ready }

-- how many channels there are
abbrev pub channels : ℕ
channels = 16

abbrev pub has_channel : Valves → Bool
has_channel v = nat_lt v.channel channels

-- what is to be poured: nothing where no shots are ordered, or for a channel that there is not
abbrev pub pour_of : Valves → Option Pour
pour_of v = cond (v.shots == 0 || not (has_channel v)) None (Some (record { channel = v.channel; shots = v.shots }))

-- afterwards an order is gone, carried out or not; the shots poured count up to the greatest number of a word
abbrev pub after_pour : Valves → Valves
after_pour v =
    cond (v.shots == 0) v
    (cond (has_channel v) (record v { shots = 0; poured = min (v.poured + v.shots) (2 ^ 32 - 1); status = Poured })
    (record v { shots = 0; status = NoChannel }))

-- a pour is what a program reads in the words at 0 and 4
abbrev pub Ordered : Memory → Pour → Type 0
Ordered m pour = (pour.channel ≡ value_at m 0 4) × (pour.shots ≡ value_at m 4 4)

pub valves_sound : (v : Valves) → Sound (valve_cells v)
valves_sound v = record {
  ends = λ a p. cond-false (a / 4 == 0) _ _ (ne_eqb (a / 4) 0 (λ e. omega arith)) ∙ cond-false (a / 4 == 1) _ _ (ne_eqb (a / 4) 1 (λ e. omega arith)) ∙ cond-false (a / 4 == 2) _ _ (ne_eqb (a / 4) 2 (λ e. omega arith)) ∙ cond-false (a / 4 == 3) _ _ (ne_eqb (a / 4) 3 (λ e. omega arith));
  bytes = λ a. cond_both (a / 4 == 0) _ _ (λ c. held c < 256) (λ _. omega arith)
      (λ _. cond_both (a / 4 == 1) _ _ (λ c. held c < 256) (λ _. omega arith)
      (λ _. cond_both (a / 4 == 2) _ _ (λ c. held c < 256) (λ _. omega arith)
      (λ _. cond_both (a / 4 == 3) _ _ (λ c. held c < 256) (λ _. omega arith) (λ _. lit< tt))));
}
