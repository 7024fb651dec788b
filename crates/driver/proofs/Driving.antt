-- Lists of calls.
use Rattle.std.proofs.Common.{◌≡◌, ℕ, ◌≤◌, Bool, true, false, List, [], ◌∷◌, ◌++◌, length, take, nat_lt, Ok, Err, refl, sym, ap, subst, ◌∙◌, arith}
use Rattle.std.proofs.lemmas.Bool.Decides.{nat_tests}
use Rattle.bus.specs.Memory.{Memory}
use Rattle.machine.specs.declared.state.State.{State}
use Rattle.machine.specs.declared.answers.CallRefusal.TheVariants.{RunTooLong}
use Rattle.machine.specs.Calls.{most_steps, by_length, run}
use Rattle.machine.specs.Isolation.{Agree, Alike}
use Rattle.machine.specs.Laws.{RunWithheld}
use Rattle.machine.specs.Outcomes.{Outcome}
use Rattle.machine.specs.State.{reset_state}
use Rattle.machine.specs.Step.{step, run_of}
use Rattle.machine.proofs.Alikes.{unmoved, with_answer_alike, alike_onwards, step_isolated}
use Rattle.machine.proofs.Confining.{confined}
use Rattle.machine.proofs.RunLaws.{run_isolated}
use Rattle.driver.specs.declared.call.Call.{Call}
use Rattle.driver.specs.declared.call.Call.TheVariants.{Reset, Step, Run, Pc, Register, ControlRegister, TlbEntry}
use Rattle.driver.specs.declared.call.Answer.{Answer}
use Rattle.driver.specs.declared.call.Answer.TheVariants as answer
use Rattle.driver.specs.Calls.{perform_of, then, drive_of}
use Rattle.driver.specs.Isolation.{by_step, by_run, by_later_call, AllWithheld, AllConfined, DriveIsolated, Isolated}

pub all_confined : (calls : List Call) (s : State) (m : Memory) → AllConfined calls s m
all_confined calls s m t levels k performs = confined t levels k

module _ (withheld : ℕ → Bool) where
  run_call_alike : (long : Bool) (count levels : ℕ) (s : State) (m n : Memory) → Agree withheld m n → nat_lt most_steps count ≡ long
      → (count ≤ most_steps → RunWithheld withheld count levels s m)
      → Alike withheld m n (by_length long count levels s m) (by_length long count levels s n)
  run_call_alike true count levels s m n agree is held = unmoved withheld m n agree (Err RunTooLong) s
  run_call_alike false count levels s m n agree is held =
      let short : count ≤ most_steps = grind (arith, nat_tests) in
      with_answer_alike withheld m n Ok (run_of count levels s m) (run_of count levels s n) (run_isolated count levels s m withheld n agree (held short))

  answer_alike : (c : Call) (cs : List Call) (s : State) (m n : Memory) → Agree withheld m n → AllWithheld withheld (c ∷ cs) s m
      → Alike withheld m n (perform_of s m c) (perform_of s n c)
  answer_alike Reset cs s m n agree held = unmoved withheld m n agree answer.Reset reset_state
  answer_alike (Step levels) cs s m n agree held =
      with_answer_alike withheld m n answer.Step (step s levels m) (step s levels n) (step_isolated s levels m withheld n agree (held s levels m by_step))
  answer_alike (Run count levels) cs s m n agree held =
      with_answer_alike withheld m n answer.Run (run s count levels m) (run s count levels n)
      (run_call_alike (nat_lt most_steps count) count levels s m n agree refl (λ short t k performs. held t levels k (by_run short performs)))
  answer_alike Pc cs s m n agree held = unmoved withheld m n agree _ s
  answer_alike (Register number) cs s m n agree held = unmoved withheld m n agree _ s
  answer_alike (ControlRegister number) cs s m n agree held = unmoved withheld m n agree _ s
  answer_alike (TlbEntry number) cs s m n agree held = unmoved withheld m n agree _ s

  drive_alike : (calls : List Call) (s : State) (m n : Memory) → Agree withheld m n → AllWithheld withheld calls s m
      → Alike withheld m n (drive_of s m calls) (drive_of s n calls)
  drive_alike [] s m n agree held = unmoved withheld m n agree [] s
  drive_alike (c ∷ cs) s m n agree held =
      let o = perform_of s m c in
      let p = perform_of s n c in
      let one : Alike withheld m n o p = answer_alike c cs s m n agree held in
      let more : Alike withheld o.memory p.memory (drive_of o.state o.memory cs) (drive_of p.state p.memory cs)
      = subst (λ (t : State). Alike withheld o.memory p.memory (drive_of o.state o.memory cs) (drive_of t p.memory cs)) one.cores
      (drive_alike cs o.state o.memory p.memory one.others (λ t levels k performs. held t levels k (by_later_call performs))) in
      let all : Alike withheld o.memory p.memory (then o.answer (drive_of o.state o.memory cs)) (then p.answer (drive_of p.state p.memory cs))
      = subst (λ a. Alike withheld o.memory p.memory (then o.answer (drive_of o.state o.memory cs)) (then a (drive_of p.state p.memory cs))) one.answers
      (with_answer_alike withheld o.memory p.memory (λ answers. o.answer ∷ answers) (drive_of o.state o.memory cs) (drive_of p.state p.memory cs) more) in
      alike_onwards withheld m n o p (drive_of s m (c ∷ cs)) (drive_of s n (c ∷ cs)) one all

-- the answers to the first calls are the first answers
first_answers : (before behind : List Call) (s : State) (m : Memory)
    → take (length before) (drive_of s m (before ++ behind)).answer ≡ (drive_of s m before).answer
first_answers [] behind s m = refl
first_answers (c ∷ cs) behind s m =
    let o = perform_of s m c in
    ap (λ rest. o.answer ∷ rest) (first_answers cs behind o.state o.memory)

isolated_of : (calls : List Call) (s : State) (m n : Memory) → Isolated calls s m n (drive_of s m calls) (drive_of s n calls)
isolated_of calls s m n = record {
  alike = λ withheld agree held. drive_alike withheld calls s m n agree held;
  alike_so_far = λ withheld before behind is agree held. drive_alike withheld before s m n agree held;
  left_so_far = λ before behind is. ap (λ cs. take (length before) (drive_of s m cs).answer) is ∙ first_answers before behind s m;
  right_so_far = λ before behind is. ap (λ cs. take (length before) (drive_of s n cs).answer) is ∙ first_answers before behind s n;
}

pub isolated : (calls : List Call) (s : State) (m n : Memory) (left right : Outcome (List Answer)) → left ≡ drive_of s m calls
    → right ≡ drive_of s n calls → Isolated calls s m n left right
isolated calls s m n left right is is_too =
    subst (λ o. Isolated calls s m n o right) (sym is) (subst (λ o. Isolated calls s m n (drive_of s m calls) o) (sym is_too) (isolated_of calls s m n))

pub drive_isolated : (calls : List Call) (s : State) (m : Memory) (o : Outcome (List Answer)) → o ≡ drive_of s m calls → DriveIsolated calls s m o
drive_isolated calls s m o is n = isolated calls s m n o (drive_of s n calls) is refl
