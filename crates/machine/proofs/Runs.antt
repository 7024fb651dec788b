-- A run, step by step.
use Rattle.std.proofs.Common.{◌≡◌, ℕ, suc, ◌+◌, ◌-◌, ◌<◌, Some, Ok, Err, sym, ap, subst, ◌∙◌, arith}
use Rattle.bus.specs.Memory.{Memory}
use Rattle.machine.specs.declared.answers.Event.{Event}
use Rattle.machine.specs.declared.answers.RunReport.{RunReport}
use Rattle.machine.specs.declared.answers.StepRefusal.{StepRefusal}
use Rattle.machine.specs.declared.state.State.{State}
use Rattle.machine.specs.Isolation.{FetchesNothing}
use Rattle.machine.specs.Laws.{further, RunPerforms, first, later, NoStepFetches}
use Rattle.machine.specs.Outcomes.{Outcome, StepAnswer, outcome}
use Rattle.machine.specs.Step.{step, ran_on, run_of}
use Rattle.machine.specs.StepLoop.{Single}

-- a run with one step more
abbrev pub one_more_step : Outcome RunReport → Outcome RunReport
one_more_step o = record o { answer = record o.answer { steps = suc o.answer.steps } }

further_suc : (k : ℕ) (o : Outcome RunReport) → further (k + 1) o ≡ further k (one_more_step o)
further_suc k o =
    let more : (k + 1) + o.answer.steps ≡ k + suc o.answer.steps = omega arith in
    ap (λ n. record o { answer = record o.answer { steps = n } }) more

run_at : (count k levels : ℕ) (s : State) (m : Memory) → k < count → run_of (count - k) levels s m ≡ run_of (suc (count - (k + 1))) levels s m
run_at count k levels s m l =
    let e : count - k ≡ suc (count - (k + 1)) = omega arith in
    ap (λ n. run_of n levels s m) e

-- what is left after one accepted step more
pub one_more : (count k levels : ℕ) (s t : State) (m n : Memory) (e : Event) → k < count → outcome (Ok e) t n ≡ step s levels m
    → further (k + 1) (run_of (count - (k + 1)) levels t n) ≡ further k (run_of (count - k) levels s m)
one_more count k levels s t m n e l is =
    let left = count - (k + 1) in
    further_suc k (run_of left levels t n)
    ∙ ap (λ o. further k (ran_on o.answer o (run_of left levels o.state o.memory))) is
    ∙ sym (ap (further k) (run_at count k levels s m l))

pub cut_short : (count k levels : ℕ) (s t : State) (m n : Memory) (e : StepRefusal) → k < count → outcome (Err e) t n ≡ step s levels m
    → outcome (record { steps = k; refusal = Some e }) t n ≡ further k (run_of (count - k) levels s m)
cut_short count k levels s t m n e l is =
    let left = count - (k + 1) in
    let none : k ≡ k + 0 = omega arith in
    ap (λ j. outcome (record { steps = j; refusal = Some e }) t n) none
    ∙ ap (λ o. further k (ran_on o.answer o (run_of left levels o.state o.memory))) is
    ∙ sym (ap (further k) (run_at count k levels s m l))

-- of a run of which no step fetches: the next step does not, and neither do those behind it
pub first_unfetched : (count k levels : ℕ) (s : State) (m : Memory) → k < count → NoStepFetches (count - k) levels s m → FetchesNothing s levels
first_unfetched count k levels s m l none =
    let e : suc (count - (k + 1)) ≡ count - k = omega arith in
    none s m (subst (λ n. RunPerforms n levels s m s m) e first)

pub later_unfetched : (count k levels : ℕ) (s t : State) (m n : Memory) (e : Event) → k < count → outcome (Ok e) t n ≡ step s levels m
    → NoStepFetches (count - k) levels s m → NoStepFetches (count - (k + 1)) levels t n
later_unfetched count k levels s t m n e l is none u q performs =
    let left = count - (k + 1) in
    let one_more : suc left ≡ count - k = omega arith in
    let accepted : (step s levels m).answer ≡ Ok e = sym (ap (λ (o : Outcome StepAnswer). o.answer) is) in
    none u q (subst (λ j. RunPerforms j levels s m u q) one_more
    (later e accepted (subst (λ (o : Outcome StepAnswer). RunPerforms left levels o.state o.memory u q) is performs)))

-- the first step of a loop, before which neither the state nor the bus has changed
pub alone : {B : Type 0} (byte : B → Memory) (levels : ℕ) (s0 s t : State) (b0 b n : B) (a : StepAnswer) → (s ≡ s0) × (b ≡ b0)
    → outcome a t (byte n) ≡ step s levels (byte b) → (FetchesNothing s levels → n ≡ b)
    → Single s0 levels (byte b0) (outcome a t (byte n)) (n ≡ b0)
alone byte levels s0 s t b0 b n a start is untouched = record {
  value = is ∙ ap (λ x. step x levels (byte b)) start.0 ∙ ap (λ x. step s0 levels (byte x)) start.1;
  untouched = λ nothing. untouched (subst (λ x. FetchesNothing x levels) (sym start.0) nothing) ∙ start.1;
}
