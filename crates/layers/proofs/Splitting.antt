-- An access to a split is one to the side that it begins on.
use Rattle.std.proofs.Common.{◌≡◌, ℕ, ◌%◌, ◌<◌, ◌≤◌, true, false, cond, eqb, ltb, Ok, Err, Result, sym, ap, ◌∙◌, arith}
use Rattle.std.proofs.lemmas.Bool.Decides.{nat_tests}
use Rattle.std.proofs.lemmas.Bool.{cond-true, cond-false, eq-eqb, and_from, not_from_false}
use Rattle.bus.specs.declared.refusal.Refusal.{Refusal}
use Rattle.bus.specs.declared.refusal.BoardRefusal.TheVariants.{Uneven}
use Rattle.bus.specs.Cell.{Cell}
use Rattle.bus.specs.Memory.{Memory, aligned, within, read_of}
use Rattle.bus.specs.Board.{border_check, is_accepted, nothing, by_check}
use Rattle.bus.specs.Layout.{hidden_cells}
use Rattle.bus.proofs.Accesses.{Written, written_same}
use Rattle.bus.proofs.Ruling.{hidden_kept}
use Rattle.layers.specs.Layers.{sides, split_cells, shown_low, shown_high}
use Rattle.layers.proofs.SameAddresses.{read_over, written_over}

module _ (c : ℕ) (border_by_4 : c % 4 ≡ 0) where
  split_accepted : (lo hi : Memory) → split_cells c lo hi ≡ sides c lo hi
  split_accepted lo hi = ap (λ r. by_check r (sides c lo hi) nothing) (cond-true (eqb (c % 4) 0) (Ok tt) (Err Uneven) (eq-eqb (c % 4) 0 border_by_4))

  border_accepted : is_accepted (border_check c) ≡ true
  border_accepted = ap is_accepted (cond-true (eqb (c % 4) 0) (Ok tt) (Err Uneven) (eq-eqb (c % 4) 0 border_by_4))

  stays_below : (a w x : ℕ) → a < c → aligned a w ≡ true → within a w x ≡ true → ltb x c ≡ true
  stays_below a w x l fit e = grind (arith, nat_tests)

  stays_above : (a w x : ℕ) → c ≤ a → within a w x ≡ true → ltb x c ≡ false
  stays_above a w x l e = grind (arith, nat_tests)

  module _ (lo hi : Memory) (a w : ℕ) where
    below_as_is : a < c → aligned a w ≡ true → (x : ℕ) → within a w x ≡ true → (d : Cell) → cond (ltb x c) d (hi x) ≡ d
    below_as_is below fit x e d = cond-true _ _ _ (stays_below a w x below fit e)

    above_as_is : c ≤ a → aligned a w ≡ true → (x : ℕ) → within a w x ≡ true → (d : Cell) → cond (ltb x c) (lo x) d ≡ d
    above_as_is above fit x e d = cond-false _ _ _ (stays_above a w x above e)

    pub low_read : a < c → (r : Result ℕ Refusal) → r ≡ read_of lo a w → r ≡ read_of (split_cells c lo hi) a w
    low_read below r told =
        read_over (λ x d. cond (ltb x c) d (hi x)) lo a w (below_as_is below) r told ∙ sym (ap (λ m. read_of m a w) (split_accepted lo hi))

    pub high_read : c ≤ a → (r : Result ℕ Refusal) → r ≡ read_of hi a w → r ≡ read_of (split_cells c lo hi) a w
    high_read above r told =
        read_over (λ x d. cond (ltb x c) (lo x) d) hi a w (above_as_is above) r told ∙ sym (ap (λ m. read_of m a w) (split_accepted lo hi))

  module _ (lo hi : Memory) (a w v : ℕ) (r : Result (Unit {0}) Refusal) (n : Memory) where
    pub low_write : a < c → Written lo a w v r n → Written (split_cells c lo hi) a w v r (split_cells c n hi)
    low_write below h =
        written_same (sides c lo hi) (split_cells c lo hi) (sides c n hi) (split_cells c n hi) a w v r (sym (split_accepted lo hi)) (split_accepted n hi)
        (written_over (λ x d. cond (ltb x c) d (hi x)) lo a w v (below_as_is lo hi a w below) r n h)

    pub high_write : c ≤ a → Written hi a w v r n → Written (split_cells c lo hi) a w v r (split_cells c lo n)
    high_write above h =
        written_same (sides c lo hi) (split_cells c lo hi) (sides c lo n) (split_cells c lo n) a w v r (sym (split_accepted lo hi)) (split_accepted lo n)
        (written_over (λ x d. cond (ltb x c) (lo x) d) hi a w v (above_as_is lo hi a w above) r n h)

    pub low_hidden : a < c → Written lo a w v r n → hidden_cells (shown_low c) n ≡ hidden_cells (shown_low c) lo
    low_hidden below h = hidden_kept (shown_low c) lo a w v (λ fit x e. and_from _ _ border_accepted (stays_below a w x below fit e)) r n h

    pub high_hidden : c ≤ a → Written hi a w v r n → hidden_cells (shown_high c) n ≡ hidden_cells (shown_high c) hi
    high_hidden above h = hidden_kept (shown_high c) hi a w v (λ fit x e. and_from _ _ border_accepted (not_from_false _ (stays_above a w x above e))) r n h
