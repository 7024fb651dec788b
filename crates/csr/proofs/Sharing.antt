-- IS and LIE share a 1 exactly if a group of them does.
use Rattle.std.proofs.Common.{◌≡◌, ℕ, ◌+◌, ◌*◌, ◌^◌, ◌<◌, Bool, true, false, refl, ap, ◌∙◌, arith, bit_and}
use Rattle.std.proofs.lemmas.Nat.{and_block}
use Rattle.csr.specs.declared.interrupts.Interrupts.{Interrupts}
use Rattle.csr.specs.Words.{bit}
use Rattle.csr.specs.Interrupts.{pending_bits, enabled_bits}

-- the highest groups: the timer's bit, and one of LIE alone
timers : (t u i : Bool) → bit_and (bit t) (bit u + bit i * 2) ≡ bit t * bit u
timers true true true = refl
timers true true false = refl
timers true false true = refl
timers true false false = refl
timers false true true = refl
timers false true false = refl
timers false false true = refl
timers false false false = refl

shared_parts : (s h : ℕ) (t : Bool) (r g : ℕ) (u i : Bool) → s < 2 ^ 2 → h < 2 ^ 8 → r < 2 ^ 2 → g < 2 ^ 8
    → bit_and (s + h * 2 ^ 2 + bit t * 2 ^ 11) (r + g * 2 ^ 2 + bit u * 2 ^ 11 + bit i * 2 ^ 12)
    ≡ bit t * bit u * 2 ^ 11 + bit_and h g * 2 ^ 2 + bit_and s r
shared_parts s h t r g u i s_fits h_fits r_fits g_fits =
    let upper : bit_and (bit t * 2 ^ 9 + h) ((bit u + bit i * 2) * 2 ^ 9 + g) ≡ bit t * bit u * 2 ^ 9 + bit_and h g =
    and_block 9 (bit t) (bit u + bit i * 2) h g (omega arith) (omega arith) ∙ ap (λ n. n * 2 ^ 9 + bit_and h g) (timers t u i) in
    let left : s + h * 2 ^ 2 + bit t * 2 ^ 11 ≡ (bit t * 2 ^ 9 + h) * 2 ^ 2 + s = omega arith in
    let right : r + g * 2 ^ 2 + bit u * 2 ^ 11 + bit i * 2 ^ 12 ≡ ((bit u + bit i * 2) * 2 ^ 9 + g) * 2 ^ 2 + r = omega arith in
    let whole : bit_and ((bit t * 2 ^ 9 + h) * 2 ^ 2 + s) (((bit u + bit i * 2) * 2 ^ 9 + g) * 2 ^ 2 + r)
    ≡ bit_and (bit t * 2 ^ 9 + h) ((bit u + bit i * 2) * 2 ^ 9 + g) * 2 ^ 2 + bit_and s r =
    and_block 2 (bit t * 2 ^ 9 + h) ((bit u + bit i * 2) * 2 ^ 9 + g) s r s_fits r_fits in
    (λ k. bit_and (left k) (right k)) ∙ whole ∙ ap (λ n. n * 2 ^ 2 + bit_and s r) upper ∙ omega arith

pub shared_groups : (i : Interrupts)
    → i.pending.swi < 2 ^ 2 → i.pending.hwi < 2 ^ 8 → i.enabled.swi < 2 ^ 2 → i.enabled.hwi < 2 ^ 8
    → bit_and (pending_bits i.pending) (enabled_bits i.enabled)
    ≡ bit i.pending.ti * bit i.enabled.ti * 2 ^ 11 + bit_and i.pending.hwi i.enabled.hwi * 2 ^ 2
    + bit_and i.pending.swi i.enabled.swi
shared_groups i =
    shared_parts i.pending.swi i.pending.hwi i.pending.ti i.enabled.swi i.enabled.hwi i.enabled.ti i.enabled.ipi
