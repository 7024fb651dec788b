-- A line is read as a form exactly if it is that form's text.
use Rattle.std.proofs.Common.{◌≡◌, refl, sym, ap, ◌∙◌, subst, ℕ, suc, ◌+◌, ◌-◌, ◌<◌, ◌≤◌, Bool, true, false, ◌&&◌, cond, List, [], ◌∷◌, ◌++◌, length, take, drop, get_or, slice_index, Some, None, Option, ◌==◌, nat_le, arith, append_assoc}
use Rattle.std.proofs.lemmas.Bool.{and_parts, eqb-true, leb-true, le-leb, eq-eqb, and_from}
use Rattle.std.proofs.lemmas.Option.{cond_some, none-some}
use Rattle.std.proofs.lemmas.List.{length-append, set-get_or, set_split, take_all, take_more}
use Rattle.std.proofs.Math.Seq.{take-append_seam, drop-append-add, get_or-append_seam}
use Rattle.numerals.specs.Decimal.{is_decimal_field}
use Rattle.numerals.specs.Hexadecimal.{is_hex_field, all_hex_digits}
use Rattle.setup.specs.Lines.{Form, write, run, register, line_feed, line_text, well_formed, IsLineOf, Exact, form_if, as_write, as_run, as_register, form_by, is_framed, fields_of, form_of}

last_apart : (b : ℕ) (bs : List ℕ) → b ∷ bs ≡ take (length bs) (b ∷ bs) ++ (get_or (b ∷ bs) (length bs) 0 ∷ [])
last_apart b bs = sym (take_all (length bs + 1) (b ∷ bs) (omega arith)) ∙ take_more (b ∷ bs) (length bs) 0 (omega arith)

framed_parts : (line : List ℕ) → is_framed line ≡ true → (3 ≤ length line) × (slice_index line 1 ≡ 44) × (slice_index line (length line - 1) ≡ 10)
framed_parts line framed =
    let outer = and_parts (nat_le 3 (length line)) (slice_index line 1 == 44 && slice_index line (length line - 1) == 10) framed in
    let marks = and_parts (slice_index line 1 == 44) (slice_index line (length line - 1) == 10) outer.1 in
    (leb-true 3 (length line) outer.0, eqb-true (slice_index line 1) 44 marks.0, eqb-true (slice_index line (length line - 1)) 10 marks.1)

-- a framed line is its letter, a comma, its fields and an LF
framed_text : (line : List ℕ) → is_framed line ≡ true → line ≡ slice_index line 0 ∷ 44 ∷ (fields_of line ++ line_feed)
framed_text (a ∷ b ∷ c ∷ cs) framed =
    let parts = framed_parts (a ∷ b ∷ c ∷ cs) framed in
    let at_end : suc (suc (suc (length cs))) - 1 ≡ suc (suc (length cs)) = omega arith in
    let between : suc (suc (suc (length cs))) - 1 - 2 ≡ length cs = omega arith in
    let feed : get_or (c ∷ cs) (length cs) 0 ≡ 10 = subst (λ n. get_or (a ∷ b ∷ c ∷ cs) n 0 ≡ 10) at_end parts.2 in
    ap (λ x. a ∷ x ∷ c ∷ cs) parts.1
    ∙ ap (λ xs. a ∷ 44 ∷ xs) (last_apart c cs ∙ ap (λ x. take (length cs) (c ∷ cs) ++ (x ∷ [])) feed ∙ ap (λ n. take n (c ∷ cs) ++ line_feed) (sym between))
framed_text [] framed = absurd (omega (arith, (framed_parts [] framed).0))
framed_text (a ∷ []) framed = absurd (omega (arith, (framed_parts (a ∷ []) framed).0))
framed_text (a ∷ b ∷ []) framed = absurd (omega (arith, (framed_parts (a ∷ b ∷ []) framed).0))

-- how a framed text is read
framed_read : (letter : ℕ) (fields : List ℕ) → form_of (letter ∷ 44 ∷ (fields ++ line_feed)) ≡ form_by letter fields
framed_read letter fields =
    let line : List ℕ = letter ∷ 44 ∷ (fields ++ line_feed) in
    let all : length (fields ++ line_feed) ≡ suc (length fields) = omega (arith, length-append fields line_feed) in
    let inner : fields_of line ≡ fields = ap (λ n. take n (fields ++ line_feed)) (omega (arith, all)) ∙ take-append_seam fields line_feed in
    let at_end : length line - 1 ≡ suc (suc (length fields)) = omega (arith, all) in
    let last : slice_index line (length line - 1) ≡ 10 = ap (slice_index line) at_end ∙ get_or-append_seam fields 10 [] 0 in
    let long : nat_le 3 (suc (suc (length (fields ++ line_feed)))) ≡ true = le-leb 3 (suc (suc (length (fields ++ line_feed)))) (omega (arith, all)) in
    let framed : is_framed line ≡ true = and_from (nat_le 3 (length line)) (slice_index line (length line - 1) == 10) long (eq-eqb (slice_index line (length line - 1)) 10 last) in
    rw (framed, inner) refl

pair_read : (address value : List ℕ) → length address ≡ 8 → length value ≡ 8 → as_write (address ++ (44 ∷ value)) ≡ form_if (is_hex_field address && is_hex_field value) (write address value)
pair_read address value eight also =
    let fields : List ℕ = address ++ (44 ∷ value) in
    let long : length fields ≡ 17 = omega (arith, length-append address (44 ∷ value), eight, also) in
    let comma : slice_index fields 8 ≡ 44 = subst (λ n. slice_index fields n ≡ 44) eight (get_or-append_seam address 44 value 0) in
    let first : take 8 fields ≡ address = subst (λ n. take n fields ≡ address) eight (take-append_seam address (44 ∷ value)) in
    let nine : length address + 1 ≡ 9 = omega (arith, eight) in
    let second : drop 9 fields ≡ value = subst (λ n. drop n fields ≡ value) nine (drop-append-add address (44 ∷ value) 1) in
    rw (long, comma, first, second) refl

cond_then : (t : Bool) (x : Option Form) (f : Form) → cond t x None ≡ Some f → (t ≡ true) × (x ≡ Some f)
cond_then true x f e = (refl, e)
cond_then false x f e = absurd (none-some f e)

parted : (i : ℕ) (xs : List ℕ) → i < length xs → xs ≡ take i xs ++ (slice_index xs i ∷ drop (suc i) xs)
parted i xs within = sym (set-get_or xs i 0) ∙ set_split xs i (slice_index xs i) within

sound_write : (fields : List ℕ) (f : Form) → as_write fields ≡ Some f → IsLineOf f (119 ∷ 44 ∷ (fields ++ line_feed))
sound_write fields f read =
    let fits = cond_then (length fields == 17 && slice_index fields 8 == 44) (form_if (is_hex_field (take 8 fields) && is_hex_field (drop 9 fields)) (write (take 8 fields) (drop 9 fields))) f read in
    let marks = and_parts (length fields == 17) (slice_index fields 8 == 44) fits.0 in
    let good = cond_some (is_hex_field (take 8 fields) && is_hex_field (drop 9 fields)) (write (take 8 fields) (drop 9 fields)) f fits.1 in
    let apart : fields ≡ take 8 fields ++ (44 ∷ drop 9 fields) =
    parted 8 fields (omega (arith, eqb-true (length fields) 17 marks.0)) ∙ ap (λ x. take 8 fields ++ (x ∷ drop 9 fields)) (eqb-true (slice_index fields 8) 44 marks.1) in (
      subst (λ f. well_formed f ≡ true) good.1 good.0,
      ap line_text (sym good.1) ∙ ap (λ xs. 119 ∷ 44 ∷ xs) (sym (append_assoc (take 8 fields) (44 ∷ drop 9 fields) line_feed) ∙ ap (λ xs. xs ++ line_feed) (sym apart)),
    )

-- a number after the letter `mark`
sound_number : (mark : ℕ) (good : Bool) (g f : Form) (letter : ℕ) (fields : List ℕ) → letter ≡ mark → well_formed g ≡ good → line_text g ≡ mark ∷ 44 ∷ (fields ++ line_feed) → form_if good g ≡ Some f
    → IsLineOf f (letter ∷ 44 ∷ (fields ++ line_feed))
sound_number mark good g f letter fields is by text read =
    let found = cond_some good g f read in
    (subst (λ f. well_formed f ≡ true) found.1 (by ∙ found.0), ap line_text (sym found.1) ∙ text ∙ ap (λ x. x ∷ 44 ∷ (fields ++ line_feed)) (sym is))

sound_by : (letter : ℕ) (fields : List ℕ) (f : Form) → form_by letter fields ≡ Some f → IsLineOf f (letter ∷ 44 ∷ (fields ++ line_feed))
sound_by letter fields f read = by_write (letter == 119) refl
  where
    register_after : Option Form
    register_after = cond (letter == 114) (as_register fields) None

    run_after : Option Form
    run_after = cond (letter == 103) (as_run fields) register_after

    by_run : (t : Bool) → (letter == 103) ≡ t → cond t (as_run fields) register_after ≡ Some f → IsLineOf f (letter ∷ 44 ∷ (fields ++ line_feed))
    by_run true e r = sound_number 103 (is_decimal_field fields) (run fields) f letter fields (eqb-true letter 103 e) refl refl r
    by_run false e r =
        let found = cond_then (letter == 114) (as_register fields) f r in
        sound_number 114 (is_decimal_field fields) (register fields) f letter fields (eqb-true letter 114 found.0) refl refl found.1

    by_write : (t : Bool) → (letter == 119) ≡ t → IsLineOf f (letter ∷ 44 ∷ (fields ++ line_feed))
    by_write true e =
        let found = sound_write fields f (subst (λ t. cond t (as_write fields) run_after ≡ Some f) e read) in
        (found.0, found.1 ∙ ap (λ x. x ∷ 44 ∷ (fields ++ line_feed)) (sym (eqb-true letter 119 e)))
    by_write false e = by_run (letter == 103) refl (subst (λ t. cond t (as_write fields) run_after ≡ Some f) e read)

complete : (f : Form) → well_formed f ≡ true → form_of (line_text f) ≡ Some f
complete (write address value) good =
    let parts = and_parts (is_hex_field address) (is_hex_field value) good in
    let long = and_parts (length address == 8) (all_hex_digits address) parts.0 in
    let also = and_parts (length value == 8) (all_hex_digits value) parts.1 in
    ap (λ fields. form_of (119 ∷ 44 ∷ fields)) (sym (append_assoc address (44 ∷ value) line_feed))
    ∙ framed_read 119 (address ++ (44 ∷ value))
    ∙ pair_read address value (eqb-true (length address) 8 long.0) (eqb-true (length value) 8 also.0)
    ∙ rw good refl
complete (run count) good = framed_read 103 count ∙ rw good refl
complete (register number) good = framed_read 114 number ∙ rw good refl

pub exact : (line : List ℕ) → Exact line (form_of line)
exact line = record {
  sound = λ f read.
      let found = cond_then (is_framed line) (form_by (slice_index line 0) (fields_of line)) f read in
      let good = sound_by (slice_index line 0) (fields_of line) f found.1 in
      (good.0, good.1 ∙ sym (framed_text line found.0));
  complete = λ f is. subst (λ l. form_of l ≡ Some f) is.1 (complete f is.0);
}
