-- A text's lines are its first, and those of what lies behind it.
use Rattle.std.proofs.Common.{◌≡◌, refl, sym, ap, ◌∙◌, ℕ, zero, suc, ◌-◌, ◌<◌, ◌≤◌, Bool, true, false, List, [], ◌∷◌, length, take, drop, slice_index, ◌==◌, inl, inr, ⊎_elim, arith}
use Rattle.std.specs.Prelude.{◌≢◌, ◌⊎◌}
use Rattle.std.proofs.lemmas.Bool.{eqb-true}
use Rattle.std.proofs.Math.Seq.{drop-length}
use Rattle.std.proofs.lemmas.List.{take-append-drop, length-take, get_or-take}
use Rattle.setup.specs.Text.{FirstLine, lines_of, line_length}

pub first_line : (text : List ℕ) → 0 < length text → lines_of text ≡ take (line_length text) text ∷ lines_of (drop (line_length text) text)
first_line [] some = absurd (omega arith)
first_line (b ∷ []) some = grind arith
first_line (b ∷ c ∷ bs) some = by_feed (b == 10) refl (first_line (c ∷ bs) (omega arith))
  where
    by_feed : (t : Bool) → (b == 10) ≡ t → lines_of (c ∷ bs) ≡ take (line_length (c ∷ bs)) (c ∷ bs) ∷ lines_of (drop (line_length (c ∷ bs)) (c ∷ bs))
        → lines_of (b ∷ c ∷ bs) ≡ take (line_length (b ∷ c ∷ bs)) (b ∷ c ∷ bs) ∷ lines_of (drop (line_length (b ∷ c ∷ bs)) (b ∷ c ∷ bs))
    by_feed true e rest = rw e refl
    by_feed false e rest = rw (e, rest) refl

pub line_length_within : (text : List ℕ) → line_length text ≤ length text
line_length_within [] = omega arith
line_length_within (b ∷ bs) = grind (arith, line_length_within bs)

has_a_byte : (text : List ℕ) → 0 < length text → 0 < line_length text
has_a_byte [] some = absurd (omega arith)
has_a_byte (b ∷ bs) some = grind arith

no_feed : (text : List ℕ) (k : ℕ) → suc k < line_length text → slice_index text k ≢ 10
no_feed [] k before feed = absurd (omega arith)
no_feed (b ∷ bs) zero before feed = grind (arith, feed)
no_feed (b ∷ bs) (suc k) before feed = no_feed bs k (grind arith) feed

ended : (text : List ℕ) → 0 < length text → (slice_index text (line_length text - 1) ≡ 10) ⊎ (line_length text ≡ length text)
ended [] some = absurd (omega arith)
ended (b ∷ []) some = by_feed (b == 10) refl
  where
    by_feed : (t : Bool) → (b == 10) ≡ t → (slice_index (b ∷ []) (line_length (b ∷ []) - 1) ≡ 10) ⊎ (line_length (b ∷ []) ≡ length (b ∷ []))
    by_feed true e = let at : line_length (b ∷ []) - 1 ≡ 0 = grind (arith, e) in inl (ap (slice_index (b ∷ [])) at ∙ eqb-true b 10 e)
    by_feed false e = inr (grind (arith, e))
ended (b ∷ c ∷ cs) some = by_feed (b == 10) refl (ended (c ∷ cs) (omega arith)) (has_a_byte (c ∷ cs) (omega arith))
  where
    by_feed : (t : Bool) → (b == 10) ≡ t → (slice_index (c ∷ cs) (line_length (c ∷ cs) - 1) ≡ 10) ⊎ (line_length (c ∷ cs) ≡ length (c ∷ cs)) → 0 < line_length (c ∷ cs)
        → (slice_index (b ∷ c ∷ cs) (line_length (b ∷ c ∷ cs) - 1) ≡ 10) ⊎ (line_length (b ∷ c ∷ cs) ≡ length (b ∷ c ∷ cs))
    by_feed true e rest some = let at : line_length (b ∷ c ∷ cs) - 1 ≡ 0 = grind (arith, e) in inl (ap (slice_index (b ∷ c ∷ cs)) at ∙ eqb-true b 10 e)
    by_feed false e (inl feed) some = let at : line_length (b ∷ c ∷ cs) - 1 ≡ suc (line_length (c ∷ cs) - 1) = grind (arith, e, some) in inl (ap (slice_index (b ∷ c ∷ cs)) at ∙ feed)
    by_feed false e (inr whole) some = inr (grind (arith, e, whole))

pub is_first_line : (text : List ℕ) → 0 < length text → FirstLine text (take (line_length text) text) (drop (line_length text) text)
is_first_line text some =
    let n : ℕ = line_length text in
    let long : length (take n text) ≡ n = omega (arith, length-take n text, line_length_within text) in
    record {
      together = sym (take-append-drop n text);
      has_a_byte = omega (arith, long, has_a_byte text some);
      no_feed_before_its_end = λ k before feed. no_feed text k (omega (arith, long)) (sym (get_or-take n text k 0 (omega (arith, long))) ∙ feed);
      ended = ⊎_elim (λ feed. inl (ap (λ m. slice_index (take n text) (m - 1)) long ∙ get_or-take n text (n - 1) 0 (omega (arith, has_a_byte text some)) ∙ feed)) (λ whole. inr (ap (λ k. drop k text) whole ∙ drop-length text)) (ended text some);
    }
