-- What a loop that makes calls keeps of the bus.
use Rattle.std.proofs.Common.{◌≡◌, refl, ap, sym, ◌∙◌, ℕ, ◌+◌, ◌<◌, ◌≤◌, List, [], ◌∷◌, ◌++◌, length, get_or, drop, append_assoc}
use Rattle.std.proofs.lemmas.List.{append-nil, drop_more, drop_all}
use Rattle.bus.specs.Memory.{Memory}
use Rattle.calls.specs.declared.call.Call.{Call}
use Rattle.calls.specs.declared.call.Answer.{Answer}
use Rattle.calls.specs.Calls.{answer_to, memory_after_call, answers_to, memory_through}

-- the first k calls were made: what those that are left answer and leave is what all calls do, behind the answers so far
pub record SoFar (calls : List Call) (first : Memory) (k : ℕ) (answers : List Answer) (m : Memory) : Type 0 where
  pub answered : answers ++ answers_to m (drop k calls) ≡ answers_to first calls
  pub same_end : memory_through m (drop k calls) ≡ memory_through first calls

module _ (calls : List Call) (first : Memory) where
  pub none_made : (answers : List Answer) → answers ≡ [] → SoFar calls first 0 answers first
  none_made answers no_answer = record { answered = ap (λ before. before ++ answers_to first calls) no_answer; same_end = refl }

  pub one_made : (k : ℕ) (default : Call) (answers more : List Answer) (m n : Memory) (answer : Answer) → k < length calls → SoFar calls first k answers m
      → answer ≡ answer_to m (get_or calls k default) → n ≡ memory_after_call m (get_or calls k default) → more ≡ answers ++ (answer ∷ []) → SoFar calls first (k + 1) more n
  one_made k default answers more m n answer in_range so_far value after appended =
      let left : List Call = drop (k + 1) calls in
      let call : drop k calls ≡ get_or calls k default ∷ left = drop_more calls k default in_range in
      record {
        answered =
            (λ i. appended i ++ answers_to (after i) left)
            ∙ append_assoc answers (answer ∷ []) (answers_to (memory_after_call m (get_or calls k default)) left)
            ∙ ap (λ a. answers ++ (a ∷ answers_to (memory_after_call m (get_or calls k default)) left)) value
            ∙ ap (λ cs. answers ++ answers_to m cs) (sym call)
            ∙ so_far.answered;
        same_end = ap (λ x. memory_through x left) after ∙ ap (memory_through m) (sym call) ∙ so_far.same_end;
      }

  pub all_answered : (k : ℕ) (answers : List Answer) (m : Memory) → length calls ≤ k → SoFar calls first k answers m → answers ≡ answers_to first calls
  all_answered k answers m done so_far = sym (append-nil answers) ∙ ap (λ cs. answers ++ answers_to m cs) (sym (drop_all k calls done)) ∙ so_far.answered

  pub at_end : (k : ℕ) (answers : List Answer) (m : Memory) → length calls ≤ k → SoFar calls first k answers m → m ≡ memory_through first calls
  at_end k answers m done so_far = ap (memory_through m) (sym (drop_all k calls done)) ∙ so_far.same_end
