-- The isolation theorem.
use Rattle.std.specs.Prelude.{◌≡◌, ℕ, ◌≤◌, Bool, List, ◌∷◌, ◌++◌, length, take}
use Rattle.bus.specs.Memory.{Memory}
use Rattle.machine.specs.declared.state.State.{State}
use Rattle.machine.specs.Calls.{most_steps}
use Rattle.machine.specs.Isolation.{Withheld, Agree, Alike, Confined}
use Rattle.machine.specs.Laws.{RunPerforms}
use Rattle.machine.specs.Outcomes.{Outcome}
use Rattle.machine.specs.Step.{step}
use Rattle.driver.specs.declared.call.Call.{Call}
use Rattle.driver.specs.declared.call.Call.TheVariants.{Step, Run}
use Rattle.driver.specs.declared.call.Answer.{Answer}
use Rattle.driver.specs.Calls.{perform_of, drive_of}

-- these calls, begun from this core and memory, make the machine begin a step in that core, with those levels and that memory: alone or
-- within a run, refused or not
pub data Performs : List Call → State → Memory → State → ℕ → Memory → Type 0 where
  by_step : {levels : ℕ} {cs : List Call} {s : State} {m : Memory} → Performs (Step levels ∷ cs) s m s levels m
  by_run : {count levels : ℕ} {cs : List Call} {s t : State} {m k : Memory} → count ≤ most_steps → RunPerforms count levels s m t k
      → Performs (Run count levels ∷ cs) s m t levels k
  by_later_call : {levels : ℕ} {c : Call} {cs : List Call} {s t : State} {m k : Memory}
      → Performs cs (perform_of s m c).state (perform_of s m c).memory t levels k → Performs (c ∷ cs) s m t levels k

-- bytes are withheld from each step that the calls perform
abbrev pub AllWithheld : (ℕ → Bool) → List Call → State → Memory → Type 0
AllWithheld withheld calls s m = (t : State) (levels : ℕ) (k : Memory) → Performs calls s m t levels k → Withheld withheld t levels k

-- each step that the calls perform, if it begins and ends in PLV3, alters no more than it may
abbrev pub AllConfined : List Call → State → Memory → Type 0
AllConfined calls s m = (t : State) (levels : ℕ) (k : Memory) → Performs calls s m t levels k → Confined t k (step t levels k)

-- two machines that began in one core on the memories m and n, and were given the calls; for every set of withheld bytes
pub record Isolated (calls : List Call) (s : State) (m n : Memory) (left right : Outcome (List Answer)) : Type 0 where
  -- all is alike, if the bytes are withheld from each step that the first machine performs
  pub alike : (withheld : ℕ → Bool) → Agree withheld m n → AllWithheld withheld calls s m → Alike withheld m n left right
  -- while they are withheld, the same is true of the calls so far, whatever the calls behind them
  pub alike_so_far : (withheld : ℕ → Bool) (before behind : List Call) → calls ≡ before ++ behind → Agree withheld m n
      → AllWithheld withheld before s m → Alike withheld m n (drive_of s m before) (drive_of s n before)
  -- and those are what the machines answered first
  pub left_so_far : (before behind : List Call) → calls ≡ before ++ behind → take (length before) left.answer ≡ (drive_of s m before).answer
  pub right_so_far : (before behind : List Call) → calls ≡ before ++ behind → take (length before) right.answer ≡ (drive_of s n before).answer

-- the same of one machine, beside any other that begins in the same core
abbrev pub DriveIsolated : List Call → State → Memory → Outcome (List Answer) → Type 0
DriveIsolated calls s m left = (n : Memory) → Isolated calls s m n left (drive_of s n calls)
