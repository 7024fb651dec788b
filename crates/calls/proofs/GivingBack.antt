-- What memory holds that was lent to a bank and comes back.
use Rattle.std.proofs.Common.{◌≡◌, ℕ, ◌+◌, ◌-◌, ◌%◌, ◌<◌, true, List, [], ◌∷◌, length, get_or, Ok, sym, ap, ◌∙◌, arith}
use Rattle.std.proofs.lemmas.Bool.Decides.{nat_tests}
use Rattle.std.proofs.lemmas.Bool.{cond-true}
use Rattle.bus.specs.Cell.{writable}
use Rattle.bus.specs.Layout.{number, bytes}
use Rattle.bus.specs.Memory.{Memory, held, within}
use Rattle.bus.specs.Board.{range_check, by_check}
use Rattle.bus.proofs.Accesses.{part_accepted}
use Rattle.parts.specs.Parts.{byte_cell, bank_cells, hidden_bytes}
use Rattle.calls.specs.Laws.{GivenBack}

-- two layouts of a bank that are equal
pub layout_parts : (b name b' name' : ℕ) (rest rest' : List ℕ) → number b ∷ number name ∷ bytes rest ∷ [] ≡ number b' ∷ number name' ∷ bytes rest' ∷ [] → (b ≡ b') × (name ≡ name') × (rest ≡ rest')
layout_parts b name b' name' rest rest' e = (cc, cc, cc)

module _ (b : ℕ) (xs ys : List ℕ) (m : Memory) (as_long : length ys ≡ length xs) (fits : (k : ℕ) → get_or ys k 0 < 256) (meant : bank_cells b ys ≡ m) where
  covered : (k : ℕ) → k < length ys → within b (length ys) (b + k) ≡ true
  covered k l = grind (arith, nat_tests)

  byte_shown : range_check b (length xs) ≡ Ok tt → (k : ℕ) → k < length xs → get_or ys k 0 ≡ held (m (b + k))
  byte_shown e k l =
      let inside : k < length ys = omega arith in
      let accepted : range_check b (length ys) ≡ Ok tt = ap (range_check b) as_long ∙ e in
      let place : (b + k) - b ≡ k = omega arith in
      let byte : get_or ys k 0 ≡ get_or ys k 0 % 256 = omega (arith, fits k) in
      byte
      ∙ sym (ap (λ j. get_or ys j 0 % 256) place)
      ∙ sym (ap held (ap (λ f. f (b + k)) (part_accepted b (length ys) (byte_cell writable ys) accepted) ∙ cond-true (within b (length ys) (b + k)) _ _ (covered k inside)))
      ∙ ap (λ f. held (f (b + k))) meant

  pub given_back : hidden_bytes b ys ≡ hidden_bytes b xs → GivenBack b xs m ys
  given_back kept = record {
    as_long = as_long;
    shown = byte_shown;
    refused = λ e q. sym (ap (λ r. by_check r [] ys) (ap (range_check b) as_long ∙ q)) ∙ kept ∙ ap (λ r. by_check r [] xs) q;
  }
