-- What a loop that makes calls keeps of each machine.
use Rattle.std.proofs.Common.{◌≡◌, refl, ap, sym, subst, ◌∙◌, ℕ, ◌+◌, ◌<◌, ◌≤◌, List, [], ◌∷◌, ◌++◌, length, get_or, drop, append_assoc}
use Rattle.std.proofs.lemmas.List.{append-nil, drop_more, drop_all}
use Rattle.bus.specs.Memory.{Memory}
use Rattle.machine.specs.declared.state.State.{State}
use Rattle.machine.specs.Outcomes.{Outcome, outcome}
use Rattle.driver.specs.declared.call.Call.{Call}
use Rattle.driver.specs.declared.call.Call.TheVariants.{Reset}
use Rattle.driver.specs.declared.call.Answer.{Answer}
use Rattle.driver.specs.Calls.{perform_of, then, drive_of, CallFetchesNothing, AllFetchNothing}

-- answers given before those that follow
abbrev behind : List Answer → Outcome (List Answer) → Outcome (List Answer)
behind before o = record o { answer = before ++ o.answer }

-- the first k calls were made: what those that are left answer and leave is what all calls do, behind the answers so far
pub record SoFar {B L : Type 0} (byte : B → Memory) (layout : B → L) (calls : List Call) (start : State) (first : B) (k : ℕ) (answers : List Answer) (core : State) (bus : B) : Type 0 where
  pub driven : behind answers (drive_of core (byte bus) (drop k calls)) ≡ drive_of start (byte first) calls
  pub kept : layout bus ≡ layout first
  pub untouched : AllFetchNothing calls start (byte first) → (bus ≡ first) × AllFetchNothing (drop k calls) core (byte bus)

module _ {B L : Type 0} (byte : B → Memory) (layout : B → L) (calls : List Call) (start : State) (first : B) where
  pub none_made : (answers : List Answer) (core : State) → answers ≡ [] → core ≡ start → SoFar byte layout calls start first 0 answers core first
  none_made answers core no_answer begun = record {
    driven = λ i. behind (no_answer i) (drive_of (begun i) (byte first) calls);
    kept = refl;
    untouched = λ none. (refl, subst (λ s. AllFetchNothing calls s (byte first)) (sym begun) none);
  }

  pub one_made : (k : ℕ) (answers more : List Answer) (core next : State) (bus after : B) (answer : Answer) → k < length calls
      → SoFar byte layout calls start first k answers core bus
      → outcome answer next (byte after) ≡ perform_of core (byte bus) (get_or calls k Reset)
      → layout after ≡ layout bus
      → (CallFetchesNothing (get_or calls k Reset) core (byte bus) → after ≡ bus)
      → more ≡ answers ++ (answer ∷ [])
      → SoFar byte layout calls start first (k + 1) more next after
  one_made k answers more core next bus after answer in_range so_far value kept untouched appended =
      let left : List Call = drop (k + 1) calls in
      let rest : Outcome (List Answer) = drive_of next (byte after) left in
      let call : drop k calls ≡ get_or calls k Reset ∷ left = drop_more calls k Reset in_range in
      record {
        driven =
            ap (λ before. behind before rest) appended
            ∙ ap (λ all. record rest { answer = all }) (append_assoc answers (answer ∷ []) rest.answer)
            ∙ ap (λ (o : Outcome Answer). behind answers (then o.answer (drive_of o.state o.memory left))) value
            ∙ ap (λ cs. behind answers (drive_of core (byte bus) cs)) (sym call)
            ∙ so_far.driven;
        kept = kept ∙ so_far.kept;
        untouched = λ none.
            let before = so_far.untouched none in
            let here = subst (λ cs. AllFetchNothing cs core (byte bus)) call before.1 in
            (untouched here.0 ∙ before.0, subst (λ (o : Outcome Answer). AllFetchNothing left o.state o.memory) (sym value) here.1);
      }

  pub all_made : (k : ℕ) (answers : List Answer) (core : State) (bus : B) → length calls ≤ k → SoFar byte layout calls start first k answers core bus
      → outcome answers core (byte bus) ≡ drive_of start (byte first) calls
  all_made k answers core bus done so_far =
      ap (λ all. outcome all core (byte bus)) (sym (append-nil answers))
      ∙ ap (λ cs. behind answers (drive_of core (byte bus) cs)) (sym (drop_all k calls done))
      ∙ so_far.driven
