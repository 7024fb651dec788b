-- An access inside one word of a device: what it reads, and what a write leaves.
use Rattle.std.proofs.Common.{◌≡◌, ℕ, zero, suc, ◌+◌, ◌-◌, ◌*◌, ◌/◌, ◌%◌, ◌<◌, ◌≤◌, Bool, true, false, eqb, Ok, sym, refl, ap, ◌∙◌, arith}
use Rattle.std.proofs.lemmas.Bool.Decides.{Decides-eqb, nat_tests}
use Rattle.std.proofs.lemmas.Bool.{cond-true, cond-false, cond_both}
use Rattle.bus.specs.declared.access.Width.{Width}
use Rattle.bus.specs.declared.access.Width.TheVariants.{Byte, Half, Word}
use Rattle.bus.specs.Cell.{writable}
use Rattle.bus.specs.Memory.{Memory, aligned, within, is_absent, held, byte_of, read_of, write_of, put, value_at}
use Rattle.bus.specs.Width.{width_bytes, access_check}
use Rattle.bus.proofs.Accesses.{within_bounds, access_checked, is_put, write_writable, Written, written_by}
use Rattle.valves.specs.Bytes.{bytes_from, spliced, word_of}

-- two bytes of a word, taken together
half_read : (w f : ℕ) → f % 2 ≡ 0 → f < 4 → byte_of w f + 256 * (byte_of w (suc f) + 256 * 0) ≡ bytes_from w f 2
half_read w zero e l = omega arith
half_read w (suc zero) e l = absurd (omega arith)
half_read w (suc (suc zero)) e l = omega arith
half_read w (suc (suc (suc zero))) e l = absurd (omega arith)
half_read w (suc (suc (suc (suc f)))) e l = absurd (omega arith)

-- the aligned word around address a holds w
abbrev pub Holds : Memory → ℕ → ℕ → Type 0
Holds m w a = (x : ℕ) → x / 4 ≡ a / 4 → (is_absent (m x) ≡ false) × (held (m x) ≡ byte_of w (x % 4))

byte_named : (m : Memory) (w a : ℕ) → aligned a 1 ≡ true → Holds m w a → read_of m a 1 ≡ Ok (bytes_from w (a % 4) 1)
byte_named m w a fit h =
    let here = h a refl in
    let value : value_at m a 1 ≡ bytes_from w (a % 4) 1 = ap (λ y. y + 256 * 0) here.1 ∙ omega arith in
    cond-true _ _ _ fit ∙ cond-false _ _ _ here.0 ∙ ap Ok value

half_named : (m : Memory) (w a : ℕ) → aligned a 2 ≡ true → Holds m w a → read_of m a 2 ≡ Ok (bytes_from w (a % 4) 2)
half_named m w a fit h =
    let even : a % 2 ≡ 0 = grind (arith, nat_tests) in
    let here = h a refl in
    let next = h (suc a) (omega arith) in
    let f : suc a % 4 ≡ suc (a % 4) = omega arith in
    let value : value_at m a 2 ≡ bytes_from w (a % 4) 2 = (λ i. here.1 i + 256 * ((next.1 ∙ ap (byte_of w) f) i + 256 * 0)) ∙ half_read w (a % 4) (omega arith) (omega arith) in
    cond-true _ _ _ fit ∙ cond-false _ _ _ here.0 ∙ cond-false _ _ _ next.0 ∙ ap Ok value

whole_named : (m : Memory) (w a : ℕ) → aligned a 4 ≡ true → Holds m w a → read_of m a 4 ≡ Ok (bytes_from w (a % 4) 4)
whole_named m w a fit h =
    let even : a % 4 ≡ 0 = grind (arith, nat_tests) in
    let here = h a refl in
    let second = h (suc a) (omega arith) in
    let third = h (suc (suc a)) (omega arith) in
    let fourth = h (suc (suc (suc a))) (omega arith) in
    let f : suc a % 4 ≡ 1 = omega arith in
    let g : suc (suc a) % 4 ≡ 2 = omega arith in
    let k : suc (suc (suc a)) % 4 ≡ 3 = omega arith in
    let parts : value_at m a 4 ≡ byte_of w 0 + 256 * (byte_of w 1 + 256 * (byte_of w 2 + 256 * (byte_of w 3 + 256 * 0))) =
    (λ i. (here.1 ∙ ap (byte_of w) even) i + 256 * ((second.1 ∙ ap (byte_of w) f) i + 256 * ((third.1 ∙ ap (byte_of w) g) i + 256 * ((fourth.1 ∙ ap (byte_of w) k) i + 256 * 0)))) in
    let whole : byte_of w 0 + 256 * (byte_of w 1 + 256 * (byte_of w 2 + 256 * (byte_of w 3 + 256 * 0))) ≡ bytes_from w 0 4 = omega arith in
    cond-true _ _ _ fit ∙ cond-false _ _ _ here.0 ∙ cond-false _ _ _ second.0 ∙ cond-false _ _ _ third.0 ∙ cond-false _ _ _ fourth.0
    ∙ ap Ok (parts ∙ whole ∙ ap (λ n. bytes_from w n 4) (sym even))

pub word_read : (m : Memory) (w a : ℕ) (width : Width) → aligned a (width_bytes width) ≡ true → Holds m w a → read_of m a (width_bytes width) ≡ Ok (bytes_from w (a % 4) (width_bytes width))
word_read m w a Byte fit h = byte_named m w a fit h
word_read m w a Half fit h = half_named m w a fit h
word_read m w a Word fit h = whole_named m w a fit h

-- a word made of bytes has those bytes
byte_of_word : (f : ℕ → ℕ) → ((k : ℕ) → f k < 256) → (k : ℕ) → k < 4 → byte_of (word_of f) k ≡ f k
byte_of_word f small zero l = let a = small 0 in omega arith
byte_of_word f small (suc zero) l = let a = small 0 in let b = small 1 in omega arith
byte_of_word f small (suc (suc zero)) l = let a = small 0 in let b = small 1 in let c = small 2 in omega arith
byte_of_word f small (suc (suc (suc zero))) l = let a = small 0 in let b = small 1 in let c = small 2 in let d = small 3 in omega arith
byte_of_word f small (suc (suc (suc (suc k)))) l = absurd (omega arith)

spliced_small : (w f n v k : ℕ) → spliced w f n v k < 256
spliced_small w f n v k = cond_both (within f n k) _ _ (λ b. b < 256) (λ _. omega arith) (λ _. omega arith)

-- an access of n bytes at a that writes v, and memories before and after: the word around a is open, and holds w and then w' with v spliced in
module _ (m after : Memory) (w w' a n v : ℕ) (width : Width) (checked : Ok width ≡ access_check a n)
    (made : w' ≡ word_of (spliced w (a % 4) (width_bytes width) v))
    (before_in : (x : ℕ) → x / 4 ≡ a / 4 → m x ≡ writable (byte_of w (x % 4)))
    (after_in : (x : ℕ) → x / 4 ≡ a / 4 → after x ≡ writable (byte_of w' (x % 4)))
    (elsewhere : (x : ℕ) → (x / 4 ≡ a / 4 → ⊥) → after x ≡ m x) where
  fit : aligned a n ≡ true
  fit = (access_checked a n width checked).0

  bytes_after : (x : ℕ) → x / 4 ≡ a / 4 → after x ≡ writable (spliced w (a % 4) n v (x % 4))
  bytes_after x same =
      let word : w' ≡ word_of (spliced w (a % 4) n v) = made ∙ ap (λ k. word_of (spliced w (a % 4) k v)) (access_checked a n width checked).1 in
      after_in x same
      ∙ ap writable (ap (λ y. byte_of y (x % 4)) word ∙ byte_of_word (spliced w (a % 4) n v) (spliced_small w (a % 4) n v) (x % 4) (omega arith))

  stays : (x : ℕ) → a ≤ x → x < a + n → x / 4 ≡ a / 4
  stays x l u = grind (arith, nat_tests)

  done : write_of m a n v ≡ Ok (put m a n v)
  done = write_writable m a n v fit (λ x l u. (byte_of w (x % 4), before_in x (stays x l u)))

  inside : (x : ℕ) → within a n x ≡ true → after x ≡ writable (byte_of v (x - a))
  inside x t =
      let p : (a ≤ x) × (x < a + n) = within_bounds a n x t in
      let same : x / 4 ≡ a / 4 = stays x p.0 p.1 in
      let named : within (a % 4) n (x % 4) ≡ true = grind (arith, nat_tests) in
      let far : x % 4 - a % 4 ≡ x - a = omega arith in
      bytes_after x same ∙ ap writable (cond-true _ _ _ named ∙ ap (byte_of v) far)

  outside : (x : ℕ) → within a n x ≡ false → after x ≡ m x
  outside x t = go (eqb (x / 4) (a / 4)) refl
    where
      go : (same : Bool) → eqb (x / 4) (a / 4) ≡ same → after x ≡ m x
      go true e =
          let q : x / 4 ≡ a / 4 = (Decides-eqb (x / 4) (a / 4)).0 e in
          let other : within (a % 4) n (x % 4) ≡ false = grind (arith, nat_tests) in
          bytes_after x q ∙ ap writable (cond-false _ _ _ other) ∙ sym (before_in x q)
      go false e = elsewhere x (λ q. let z : eqb (x / 4) (a / 4) ≡ true = (Decides-eqb (x / 4) (a / 4)).1 q in absurd cc)

  replaced : after ≡ put m a n v
  replaced = is_put m after a n v inside outside

  pub word_written : Written m a n v (Ok tt) after
  word_written = written_by m after a n v (Ok (put m a n v)) done replaced
