-- What each word of the valve block holds.
use Rattle.std.proofs.Common.{◌≡◌, ℕ, ◌/◌, ◌%◌, arith}
use Rattle.std.proofs.lemmas.Bool.Decides.{nat_tests}
use Rattle.bus.specs.Cell.{fixed, writable}
use Rattle.bus.specs.Memory.{byte_of}
use Rattle.valves.specs.declared.valves.Valves.{Valves}
use Rattle.valves.specs.Valves.{valve_cells, status_number}

pub channel_cell : (v : Valves) (x : ℕ) → x / 4 ≡ 0 → valve_cells v x ≡ writable (byte_of v.channel (x % 4))
channel_cell v x e = grind (arith, nat_tests)

pub shots_cell : (v : Valves) (x : ℕ) → x / 4 ≡ 1 → valve_cells v x ≡ writable (byte_of v.shots (x % 4))
shots_cell v x e = grind (arith, nat_tests)

pub poured_cell : (v : Valves) (x : ℕ) → x / 4 ≡ 2 → valve_cells v x ≡ fixed (byte_of v.poured (x % 4))
poured_cell v x e = grind (arith, nat_tests)

pub status_cell : (v : Valves) (x : ℕ) → x / 4 ≡ 3 → valve_cells v x ≡ fixed (byte_of (status_number v.status) (x % 4))
status_cell v x e = grind (arith, nat_tests)
