-- Decoding is the inverse of the table.
use Rattle.std.proofs.Common.{◌≡◌, ℕ, Some, None, Option, sym, refl, ap, ◌∙◌}
use Rattle.std.proofs.lemmas.Option.{same_Some}
use Rattle.isa.specs.declared.instruction.Instruction.{Instruction}
use Rattle.isa.specs.Table.{encode, Exact}
use Rattle.isa.specs.Decoding.{decode_of}
use Rattle.isa.proofs.Sound.{right, sound}
use Rattle.isa.proofs.Complete.{complete}

undefined : (w : ℕ) (r : Option Instruction) → ((i : Instruction) → r ≡ Some i → encode i ≡ w) → ((i : Instruction) → encode i ≡ w → ⊥) → r ≡ None
undefined w None s none = refl
undefined w (Some i) s none = absurd (none i (s i refl))

pub exact : (w : ℕ) → Exact w (decode_of w)
exact w =
    let of_word : (i : Instruction) → encode i ≡ w → decode_of w ≡ Some i = λ i e. ap decode_of (sym e) ∙ complete i in
    record {
      sound = sound w (decode_of w) (right w);
      complete = of_word;
      undefined = undefined w (decode_of w) (sound w (decode_of w) (right w));
      alone = λ i j e f. same_Some i j (sym (of_word i e) ∙ of_word j f);
    }
