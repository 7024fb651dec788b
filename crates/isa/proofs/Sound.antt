-- What a word is read as has that word.
use Rattle.std.proofs.Common.{◌≡◌, ℕ, ◌/◌, ◌^◌, ◌==◌, List, [], ◌∷◌, Some, None, Option, refl, subst, arith}
use Rattle.std.proofs.lemmas.Bool.{cond_both, eqb-true}
use Rattle.std.proofs.lemmas.Bool.Decides.{nat_tests}
use Rattle.isa.specs.declared.instruction.Instruction.{Instruction}
use Rattle.isa.specs.Table.{encode}
use Rattle.isa.specs.Decoding.{choose, arithmetic_of, system_of, upper_of, atomic_of, memory_of, barrier_of, highest_rows, decode_of}

-- an answer to w: None, or an instruction whose word is w
abbrev pub Right : ℕ → Option Instruction → Type 0
Right w None = Unit
Right w (Some i) = encode i ≡ w

upper_right : (w : ℕ) → Right w (upper_of (w / 2 ^ 25) w)
upper_right w = grind (arith, nat_tests)

atomic_right : (w : ℕ) → Right w (atomic_of (w / 2 ^ 24) w)
atomic_right w = grind (arith, nat_tests)

memory_right : (w : ℕ) → Right w (memory_of (w / 2 ^ 22) w)
memory_right w = grind (arith, nat_tests)

barrier_right : (w : ℕ) → Right w (barrier_of (w / 2 ^ 15) w)
barrier_right w = grind (arith, nat_tests)

system_right : (w : ℕ) → Right w (system_of (w / 2 ^ 24) w)
system_right w = grind (arith, nat_tests)

arithmetic_right : (w : ℕ) → Right w (arithmetic_of (w / 2 ^ 22) w)
arithmetic_right w = grind (arith, nat_tests)

-- every row of number n has P; then the choice of n has it, whether there is such a row or not, if None has it
unfoldable pub AllRows : (Option Instruction → Type 0) → ℕ → List (ℕ × Option Instruction) → Type 0
AllRows P n [] = Unit
AllRows P n (row ∷ rows) = (n ≡ row.0 → P row.1) × AllRows P n rows

pub choose_all : (P : Option Instruction → Type 0) (n : ℕ) (rows : List (ℕ × Option Instruction)) → P None → AllRows P n rows → P (choose n rows)
unfolding AllRows
choose_all P n [] none h = none
choose_all P n (row ∷ rows) none h = cond_both (n == row.0) row.1 (choose n rows) P (λ e. h.0 (eqb-true n row.0 e)) (λ e. choose_all P n rows none h.1)

pub right : (w : ℕ) → Right w (decode_of w)
unfolding AllRows decode_of
right w = choose_all (Right w) (w / 2 ^ 26) (highest_rows w) tt (grind (arith, arithmetic_right w, system_right w, upper_right w, atomic_right w, memory_right w, barrier_right w))

pub sound : (w : ℕ) (r : Option Instruction) → Right w r → (i : Instruction) → r ≡ Some i → encode i ≡ w
sound w r h i e = subst (Right w) e h
