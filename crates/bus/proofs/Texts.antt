-- Hexadecimal numbers of a fixed width, as text.
use Rattle.std.proofs.Common.{◌≡◌, ℕ, ◌-◌, ◌^◌, false, List, [], ◌++◌, length, replicate, ap, ◌∙◌, arith}
use Rattle.std.proofs.lemmas.List.{append-nil}
use Rattle.std.specs.Fmt.{char_count, format_spec, padded_integral}
use Rattle.bus.specs.Text.{zeros_before}

-- what `{:0kX}` writes of a number with these digits
pub zero_padded : (k : ℕ) (text : List ℕ) → padded_integral (format_spec 32 0 4 k (2 ^ 64 - 1)) false [] text ≡ zeros_before k text
unfolding padded_integral char_count
zero_padded k text =
    let zeros : k - length text - 0 - 0 ≡ k - length text = omega arith in
    ap (λ n. replicate n 48 ++ (text ++ [])) zeros ∙ ap (λ t. replicate (k - length text) 48 ++ t) (append-nil text)
