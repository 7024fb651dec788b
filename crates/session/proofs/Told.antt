-- Text behind text, and how long the lines of a listing are.
use Rattle.std.proofs.Common.{◌≡◌, sym, ap, ◌∙◌, ℕ, ◌+◌, ◌-◌, ◌<◌, ◌≤◌, List, [], ◌∷◌, ◌++◌, length, drop, codes, decimal, arith, append_assoc, Some}
use Rattle.std.proofs.lemmas.List.{length-append, length-drop, drop-drop}
use Rattle.std.proofs.lemmas.Fmt.{length-decimal-le}
use Rattle.bus.specs.declared.refusal.Refusal.{Refusal}
use Rattle.bus.specs.declared.refusal.Refusal.TheVariants.{Misaligned, Absent, Fixed}
use Rattle.bus.specs.Refusals.{refusal_number}
use Rattle.machine.specs.declared.answers.StepRefusal.{StepRefusal}
use Rattle.machine.specs.Answers.{step_refusal_number}
use Rattle.pages.specs.declared.address.VirtAddr.{VirtAddr}
use Rattle.machine.specs.declared.answers.RunReport.{RunReport}
use Rattle.machine.specs.declared.answers.CallRefusal.TheVariants.{NoRegister, NoControlRegister, NoTlbEntry, RunTooLong}
use Rattle.session.specs.declared.answer.LineRefusal.{LineRefusal}
use Rattle.session.specs.declared.answer.LineRefusal.TheVariants.{NoForm, OutOfPlace, Bus, Call, ListingFull}
use Rattle.session.specs.Answers.{line_refusal_number}
use Rattle.session.specs.Listings.{Contents, with_text, comma_line, run_line, refusal_line, cut_line, report_lines}

with_more : (c : Contents) (xs ys : List ℕ) → with_text (with_text c xs) ys ≡ with_text c (xs ++ ys)
with_more c xs ys =
    let before = append_assoc c.written xs ys in
    let behind : drop (length ys) (drop (length xs) c.free) ≡ drop (length (xs ++ ys)) c.free = drop-drop (length ys) (length xs) c.free ∙ ap (λ n. drop n c.free) (sym (length-append xs ys)) in
    (λ i. record { written = before i; free = behind i })

pub joined : (a b c : Contents) (xs ys : List ℕ) → b ≡ with_text a xs → c ≡ with_text b ys → c ≡ with_text a (xs ++ ys)
joined a b c xs ys first second = second ∙ ap (λ x. with_text x ys) first ∙ with_more a xs ys

pub room : (a b : Contents) (xs : List ℕ) → b ≡ with_text a xs → length b.free ≡ length a.free - length xs
room a b xs e = ap (λ c. length c.free) e ∙ length-drop (length xs) a.free

pub line_size : (word first second : List ℕ) → length (comma_line word first second) ≡ length word + length first + length second + 3
line_size word first second =
    let end : List ℕ = second ++ (10 ∷ []) in
    omega (arith, length-append word (44 ∷ (first ++ (44 ∷ end))), length-append first (44 ∷ end), length-append second (10 ∷ []))

pub comma_line_told : (c0 c1 c2 c3 c4 c5 c6 : Contents) (word first second : List ℕ)
    → c1 ≡ with_text c0 word → c2 ≡ with_text c1 (codes ",") → c3 ≡ with_text c2 first → c4 ≡ with_text c3 (codes ",") → c5 ≡ with_text c4 second → c6 ≡ with_text c5 (10 ∷ [])
    → c6 ≡ with_text c0 (comma_line word first second)
comma_line_told c0 c1 c2 c3 c4 c5 c6 word first second e1 e2 e3 e4 e5 e6 =
    let end : List ℕ = second ++ (10 ∷ []) in
    joined c0 c1 c6 word (44 ∷ (first ++ (44 ∷ end))) e1
    (joined c1 c2 c6 (codes ",") (first ++ (44 ∷ end)) e2
    (joined c2 c3 c6 first (44 ∷ end) e3
    (joined c3 c4 c6 (codes ",") end e4
    (joined c4 c5 c6 second (10 ∷ []) e5 e6))))

bus_refusal_below_10 : (r : Refusal) → refusal_number r < 10
bus_refusal_below_10 Misaligned = omega arith
bus_refusal_below_10 (Absent at) = omega arith
bus_refusal_below_10 (Fixed at) = omega arith

refusal_below_100 : (e : LineRefusal) → line_refusal_number e < 100
refusal_below_100 NoForm = omega arith
refusal_below_100 OutOfPlace = omega arith
refusal_below_100 (Bus r) = omega (arith, bus_refusal_below_10 r)
refusal_below_100 (Call NoRegister) = omega arith
refusal_below_100 (Call NoControlRegister) = omega arith
refusal_below_100 (Call NoTlbEntry) = omega arith
refusal_below_100 (Call RunTooLong) = omega arith
refusal_below_100 ListingFull = omega arith

pub cut_size : (e : StepRefusal) → length (decimal (step_refusal_number e)) ≤ 1
cut_size e = length-decimal-le 1 (step_refusal_number e) (omega arith) (omega (arith, bus_refusal_below_10 e.by_bus)) (omega (arith, bus_refusal_below_10 e.by_bus))

pub refusal_size : (e : LineRefusal) → length (decimal (line_refusal_number e)) ≤ 2
refusal_size e = length-decimal-le 2 (line_refusal_number e) (omega arith) (omega (arith, refusal_below_100 e)) (omega (arith, refusal_below_100 e))

pub report_cut : (line : ℕ) (report : RunReport) (pc : VirtAddr) (e : StepRefusal) (n : ℕ) → report.refusal ≡ Some e → n ≡ step_refusal_number e
    → run_line report.steps pc.0 ++ refusal_line line n ≡ report_lines line report pc
report_cut line report pc e n cut is = ap (λ k. run_line report.steps pc.0 ++ refusal_line line k) is ∙ ap (λ r. run_line report.steps pc.0 ++ cut_line line r) (sym cut)
