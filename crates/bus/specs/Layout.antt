-- What of a bus no call changes.
use Rattle.std.specs.Prelude.{ℕ, Bool, cond, List}
use Rattle.bus.specs.Cell.{absent}
use Rattle.bus.specs.Memory.{Memory}

-- one entry of a layout: a number, as a base or the name of lent memory; bytes of lent memory that no address shows;
-- cells of a bus below that no address shows as they are (a locked cell is shown, but as fixed)
pub data Fixture : Type 0 where
  number : ℕ → Fixture
  bytes : List ℕ → Fixture
  cells : Memory → Fixture

-- m without the cells that are shown as they are
abbrev pub hidden_cells : (ℕ → Bool) → Memory → Memory
hidden_cells shown m a = cond (shown a) absent (m a)
