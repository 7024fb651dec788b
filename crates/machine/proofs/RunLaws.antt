-- The laws of a run.
use Rattle.std.proofs.Common.{◌≡◌, ℕ, zero, suc, ◌+◌, ◌%◌, ◌^◌, Bool, Some, None, Option, Ok, Err, refl, sym, ap, subst, ◌∙◌, arith}
use Rattle.bus.specs.Memory.{Memory}
use Rattle.machine.specs.declared.answers.Event.{Event}
use Rattle.machine.specs.declared.answers.RunReport.{RunReport}
use Rattle.machine.specs.declared.answers.StepRefusal.{StepRefusal}
use Rattle.machine.specs.declared.state.State.{State}
use Rattle.machine.specs.Outcomes.{Outcome, StepAnswer}
use Rattle.machine.specs.Step.{step, ran_on, run_of}
use Rattle.machine.specs.Isolation.{Agree, Alike}
use Rattle.machine.specs.Laws.{followed_by, after, Splits, first, later, RunWithheld, RunIsolated}
use Rattle.machine.proofs.Alikes.{unmoved, with_answer_alike, alike_onwards, step_isolated}
use Rattle.machine.proofs.Counting.{counter, run_counted}
use Rattle.machine.proofs.Runs.{one_more_step}

followed_by_later : (k : ℕ) (refusal : Option StepRefusal) (ran rest : Outcome RunReport)
    → one_more_step (followed_by k refusal ran rest) ≡ followed_by (suc k) refusal (one_more_step ran) rest
followed_by_later k None ran rest =
    let more : suc (k + rest.answer.steps) ≡ suc k + rest.answer.steps = omega arith in
    ap (λ n. record rest { answer = record rest.answer { steps = n } }) more
followed_by_later k (Some e) ran rest = refl

ran_on_after : (a : StepAnswer) (o : Outcome StepAnswer) (ran whole : Outcome RunReport) (rest : State → Memory → Outcome RunReport)
    → whole ≡ after ran rest → ran_on a o whole ≡ after (ran_on a o ran) rest
ran_on_after (Ok e) o ran whole rest is =
    ap one_more_step is ∙ followed_by_later ran.answer.steps ran.answer.refusal ran (rest ran.state ran.memory)
ran_on_after (Err e) o ran whole rest is = refl

run_after : (a b levels : ℕ) (s : State) (m : Memory) → run_of (a + b) levels s m ≡ after (run_of a levels s m) (run_of b levels)
run_after zero b levels s m =
    let none : (n : ℕ) → n ≡ 0 + n = λ n. omega arith in
    ap (λ n. run_of n levels s m) (sym (none b))
    ∙ ap (λ n. record (run_of b levels s m) { answer = record (run_of b levels s m).answer { steps = n } }) (none (run_of b levels s m).answer.steps)
run_after (suc a) b levels s m =
    let more : suc a + b ≡ suc (a + b) = omega arith in
    let o = step s levels m in
    ap (λ n. run_of n levels s m) more
    ∙ ran_on_after o.answer o (run_of a levels o.state o.memory) (run_of (a + b) levels o.state o.memory) (run_of b levels)
    (run_after a b levels o.state o.memory)

splits : (count levels : ℕ) (s : State) (m : Memory) → Splits count levels s m (run_of count levels s m)
splits count levels s m a b is = ap (λ n. run_of n levels s m) is ∙ run_after a b levels s m

module _ (withheld : ℕ → Bool) where
  abbrev IfAccepted : StepAnswer → Type 0 → Type 0
  IfAccepted (Ok e) P = P
  IfAccepted (Err e) P = Unit {0}

  if_accepted : (a b : StepAnswer) → a ≡ b → (P : Type 0) → ((e : Event) → a ≡ Ok e → P) → IfAccepted b P
  if_accepted a (Ok e) is P h = h e is
  if_accepted a (Err e) is P h = tt

  -- the report of a run whose first step was refused
  abbrev refused_first : StepRefusal → RunReport
  refused_first e = record { steps = 0; refusal = Some e }

  ran_on_alike : (m n : Memory) (a : StepAnswer) (o p : Outcome StepAnswer) (ran there : Outcome RunReport) → Alike withheld m n o p
      → IfAccepted a (Alike withheld o.memory p.memory ran there) → Alike withheld m n (ran_on a o ran) (ran_on a p there)
  ran_on_alike m n (Ok e) o p ran there one more =
      alike_onwards withheld m n o p (one_more_step ran) (one_more_step there) one
      (with_answer_alike withheld o.memory p.memory (λ (r : RunReport). record r { steps = suc r.steps }) ran there more)
  ran_on_alike m n (Err e) o p ran there one more =
      with_answer_alike withheld m n (λ (a : StepAnswer). refused_first e) o p one

  run_alike : (count levels : ℕ) (s : State) (m n : Memory) → Agree withheld m n → RunWithheld withheld count levels s m
      → Alike withheld m n (run_of count levels s m) (run_of count levels s n)
  run_alike zero levels s m n agree held = unmoved withheld m n agree (record { steps = 0; refusal = None }) s
  run_alike (suc count) levels s m n agree held =
      let o = step s levels m in
      let p = step s levels n in
      let one : Alike withheld m n o p = step_isolated s levels m withheld n agree (held s m first) in
      let more : IfAccepted o.answer (Alike withheld o.memory p.memory (run_of count levels o.state o.memory) (run_of count levels p.state p.memory))
      = if_accepted o.answer o.answer refl _ (λ e is.
      subst (λ (t : State). Alike withheld o.memory p.memory (run_of count levels o.state o.memory) (run_of count levels t p.memory)) one.cores
      (run_alike count levels o.state o.memory p.memory one.others (λ t k performs. held t k (later e is performs)))) in
      subst (λ (a : StepAnswer). Alike withheld m n (run_of (suc count) levels s m) (ran_on a p (run_of count levels p.state p.memory))) one.answers
      (ran_on_alike m n o.answer o p (run_of count levels o.state o.memory) (run_of count levels p.state p.memory) one more)

pub run_isolated : (count levels : ℕ) (s : State) (m : Memory) → RunIsolated count levels s m (run_of count levels s m)
run_isolated count levels s m withheld n agree held = run_alike withheld count levels s m n agree held

-- all that is promised of a run that was taken
pub record LawfulRun (count levels : ℕ) (s : State) (m : Memory) (o : Outcome RunReport) : Type 0 where
  pub counted : counter o.state % 2 ^ 64 ≡ (counter s + o.answer.steps) % 2 ^ 64
  pub splits : Splits count levels s m o
  pub isolated : RunIsolated count levels s m o

pub lawful_run : {s t : State} {o : Outcome RunReport} (count levels : ℕ) (m : Memory) → t ≡ s → o ≡ run_of count levels t m
    → LawfulRun count levels s m o
lawful_run {s} {t} {o} count levels m same is =
    let here : o ≡ run_of count levels s m = is ∙ ap (λ (u : State). run_of count levels u m) same in
    subst (LawfulRun count levels s m) (sym here) (record {
      counted = run_counted count levels s m;
      splits = splits count levels s m;
      isolated = run_isolated count levels s m;
    })
