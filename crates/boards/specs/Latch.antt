-- What a latch holds.
use Rattle.std.proofs.Common.{◌∙◌, arith, lit<}
use Rattle.std.specs.Prelude.{ℕ, ◌%◌, ◌<◌, cond, ◌==◌}
use Rattle.std.proofs.lemmas.Bool.{cond-false, cond_both, ne_eqb}
use Rattle.bus.specs.Cell.{absent, fixed, writable}
use Rattle.bus.specs.Memory.{Memory, Sound, held}

-- the setting at 0, open, and the model at 1, fixed
abbrev pub latch_cells : ℕ → ℕ → Memory
latch_cells setting model a = cond (a == 0) (writable (setting % 256)) (cond (a == 1) (fixed (model % 256)) absent)

pub latch_sound : (setting model : ℕ) → Sound (latch_cells setting model)
latch_sound setting model = record {
  ends = λ a p. cond-false (a == 0) _ _ (ne_eqb a 0 (λ e. omega arith)) ∙ cond-false (a == 1) _ _ (ne_eqb a 1 (λ e. omega arith));
  bytes = λ a. cond_both (a == 0) _ _ (λ c. held c < 256) (λ _. omega arith) (λ _. cond_both (a == 1) _ _ (λ c. held c < 256) (λ _. omega arith) (λ _. lit< tt));
}
