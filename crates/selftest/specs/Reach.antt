-- That bytes can be withheld, and that an address reaches what it should: the conditions of the isolation theorem are met by machines.
use Rattle.std.specs.Prelude.{ℕ, ◌<◌, ◌≤◌, Bool, not}
use Rattle.bus.specs.Memory.{Memory, within}
use Rattle.pages.specs.declared.access_kind.AccessKind.TheVariants as kind
use Rattle.pages.specs.declared.privilege.Privilege.TheVariants.{Plv3}
use Rattle.tlb.specs.declared.entry.Entry.{Entry}
use Rattle.tlb.specs.Searching.{reset_tlb, filled}
use Rattle.machine.specs.declared.state.State.{State}
use Rattle.machine.specs.Isolation.{Reaches}
use Rattle.machine.specs.Laws.{RunWithheld}
use Rattle.machine.specs.State.{reset_state}
use Rattle.selftest.specs.Addition.{HoldsAddition}
use Rattle.selftest.specs.Examples.{mapped_mode, large_entry}

-- all bytes but the first program's
abbrev pub other_bytes : ℕ → Bool
other_bytes x = not (within 0x1c000000 12 x)

-- a program of PLV3 for which one page of 2 MiB is mapped, to 0x800000
abbrev pub user_entry : Entry
user_entry = record large_entry { even = record large_entry.even { plv = 3 } }

abbrev pub user_state : State
user_state = record reset_state {
  registers = record reset_state.registers { mode = mapped_mode Plv3 };
  tlb = filled user_entry reset_tlb;
}

pub record Reach : Type 0 where
  -- the first program's steps ask for their own bytes alone, so all others are withheld from its run
  pub withheld : (m : Memory) → HoldsAddition m → RunWithheld other_bytes 3 0 reset_state m
  -- a byte of the page is reached, and no byte beside it
  pub reached : Reaches user_state kind.Load 0x801234
  pub beside : (x : ℕ) → Reaches user_state kind.Load x → (0x800000 ≤ x) × (x < 0xa00000)
  -- nor is any stored to, since the page is not dirty
  pub unwritten : (x : ℕ) → Reaches user_state kind.Store x → ⊥
