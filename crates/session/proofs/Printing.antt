-- A line is printed, and what is left is printed behind it.
use Rattle.std.proofs.Common.{◌≡◌, refl, ap, sym, ◌∙◌, ℕ, ◌≤◌, min, cond, length, arith, List, [], ◌∷◌, ◌++◌, take, Some, None, Option, Ok, Err, Result, append_assoc}
use Rattle.std.proofs.lemmas.Bool.{le-ltb}
use Rattle.std.proofs.lemmas.List.{length-drop}
use Rattle.std.specs.Prelude.{IfSome, OnErr}
use Rattle.std.specs.Option.{option_map}
use Rattle.std.specs.Io.KnownBytes.{Appends, append_known}
use Rattle.session.specs.declared.answer.LineRefusal.TheVariants.{ListingFull}
use Rattle.session.specs.declared.listing.Listing.{Listing}
use Rattle.session.specs.Listings.{Contents, contents}
use Rattle.session.specs.WholeText.{text_read}
use Rattle.session.specs.Sessions.{Progress, Handled, handled, read_line, handle, after_lines, LeftAt}

-- a listing that begins empty in memory of 40 bytes
pub begun : (l : Listing) (memory : List ℕ) → l.used ≡ min 0 (length memory) → l.memory.now ≡ memory → length memory ≡ 40 → (40 ≤ length (contents l).free) × ((contents l).written ≡ [])
begun l memory used held long =
    let none : l.used ≡ 0 = omega (arith, used) in
    (omega (arith, length-drop l.used l.memory.now, none, ap length held, long), ap (λ n. take n l.memory.now) none)

-- a line that finds room is read
pub read_with_room : (p : Progress) (listing : Contents) (line : List ℕ) (h : Handled) → h ≡ handle p listing line → 40 ≤ length listing.free → h ≡ read_line p line
read_with_room p listing line h as_defined room = as_defined ∙ ap (λ full. cond full (handled (Err ListingFull) p) (read_line p line)) (le-ltb (length listing.free) 40 room)

pub printed : (start now after : Option (List ℕ)) (line more whole : List ℕ) → Appends start (append_known now (line ++ more)) whole → Appends now after line → Appends start (append_known after more) whole
printed None now after line more whole so_far behind = tt
printed (Some xs) None after line more whole so_far behind = absurd so_far
printed (Some xs) (Some ys) None line more whole so_far behind = absurd behind
printed (Some xs) (Some ys) (Some zs) line more whole so_far behind = ap (λ bs. bs ++ more) behind ∙ append_assoc ys line more ∙ so_far

-- the first lines were handled, and these are left
abbrev pub SomeLeft : Progress → List (List ℕ) → Progress → List (List ℕ) → Type 0
SomeLeft p lines q left = (done : List (List ℕ)) × (done ++ left ≡ lines) × (q ≡ after_lines p done)

after_more : (p : Progress) (done : List (List ℕ)) (line : List ℕ) → after_lines p (done ++ (line ∷ [])) ≡ (read_line (after_lines p done) line).after
after_more p [] line = refl
after_more p (first ∷ done) line = after_more (read_line p first).after done line

pub one_more : (p q : Progress) (lines : List (List ℕ)) (line : List ℕ) (left : List (List ℕ)) → SomeLeft p lines q (line ∷ left) → SomeLeft p lines (read_line q line).after left
one_more p q lines line left so_far =
    (so_far.0 ++ (line ∷ []), append_assoc so_far.0 (line ∷ []) left ∙ so_far.1, ap (λ r. (read_line r line).after) so_far.2 ∙ sym (after_more p so_far.0 line))

-- the lines behind one that was read lead where it and they do
pub led_on : (p whole : Progress) (lines : List (List ℕ)) (line : List ℕ) (left : List (List ℕ)) (h : Handled) → h ≡ read_line p line → lines ≡ line ∷ left
    → after_lines p lines ≡ whole → after_lines h.after left ≡ whole
led_on p whole lines line left h read begins so_far = ap (λ r. after_lines r.after left) read ∙ sym (ap (after_lines p) begins) ∙ so_far

-- where printing fails behind a line
pub stopped : {T E : Type 0} (r : Result T E) (p q : Progress) (lines : List (List ℕ)) (line : List ℕ) (left : List (List ℕ)) → SomeLeft p lines q (line ∷ left) → OnErr r (LeftAt p lines (read_line q line).after)
stopped (Ok x) p q lines line left so_far = tt
stopped (Err e) p q lines line left so_far = (so_far.0, line, left, so_far.1, ap (λ r. (read_line r line).after) so_far.2 ∙ sym (after_more p so_far.0 line))

-- a text of which no more than a limit was read
pub limited : (known : Option (List ℕ)) (limit : ℕ) (before items : List ℕ) → limit ≡ 65536 → before ≡ []
    → IfSome (option_map (take limit) known) (λ bytes. items ≡ before ++ bytes) → IfSome known (λ bytes. items ≡ text_read bytes)
limited None limit before items at empty read = tt
limited (Some bytes) limit before items at empty read = read ∙ (λ i. empty i ++ take (at i) bytes)
