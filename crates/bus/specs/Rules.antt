-- The rules of the bus, said of an answer and not computed: which answers a read and a write may give.
use Rattle.std.specs.Prelude.{◌≡◌, ℕ, ◌+◌, ◌-◌, ◌%◌, ◌^◌, ◌<◌, ◌≤◌, Bool, true, false, ◌⊎◌, Some, None, Ok, Err, Option, Result}
use Rattle.bus.specs.declared.address.PhysAddr.{PhysAddr}
use Rattle.bus.specs.declared.refusal.Refusal.{Refusal}
use Rattle.bus.specs.Cell.{Cell, writable}
use Rattle.bus.specs.Memory.{Memory, address, held, is_absent, is_fixed, byte_of}
use Rattle.bus.specs.Refusals.{refusal_number, refusal_address}

-- an access of w bytes may stand at a
abbrev pub Stands : ℕ → ℕ → Type 0
Stands a w = ((w ≡ 1) ⊎ ((w ≡ 2) ⊎ (w ≡ 4))) × (a % w ≡ 0)

-- it names the byte x
abbrev pub Names : ℕ → ℕ → ℕ → Type 0
Names a w x = (a ≤ x) × (x < a + w)

-- p is true of no byte that it names
abbrev pub NoneNamed : (Cell → Bool) → Memory → ℕ → ℕ → Type 0
NoneNamed p m a w = (x : ℕ) → Names a w x → p (m x) ≡ false

-- x is the lowest byte that it names and p is true of
pub record LowestNamed (p : Cell → Bool) (m : Memory) (a w x : ℕ) : Type 0 where
  pub named : Names a w x
  pub true_there : p (m x) ≡ true
  pub false_below : (y : ℕ) → a ≤ y → y < x → p (m y) ≡ false

-- the refusal goes by this number and names this address
abbrev pub Told : Refusal → ℕ → Option PhysAddr → Type 0
Told e n at = (refusal_number e ≡ n) × (refusal_address e ≡ at)

-- v has the named bytes, the lowest first, and no more
pub record Reads (m : Memory) (a w v : ℕ) : Type 0 where
  pub bytes : (k : ℕ) → k < w → byte_of v k ≡ held (m (a + k))
  pub no_more : v < 256 ^ w

pub data ReadRule (m : Memory) (a w : ℕ) : Result ℕ Refusal → Type 0 where
  misaligned : (e : Refusal) → (Stands a w → ⊥) → Told e 7 None → ReadRule m a w (Err e)
  missing : (e : Refusal) (x : ℕ) → Stands a w → LowestNamed is_absent m a w x → Told e 8 (Some (address x)) → ReadRule m a w (Err e)
  value : (v : ℕ) → Stands a w → NoneNamed is_absent m a w → Reads m a w v → ReadRule m a w (Ok v)

-- n is m with exactly the named bytes replaced, by the low bytes of v
pub record Replaced (m : Memory) (a w v : ℕ) (n : Memory) : Type 0 where
  pub named : (x : ℕ) → Names a w x → n x ≡ writable (byte_of v (x - a))
  pub others : (x : ℕ) → (Names a w x → ⊥) → n x ≡ m x

pub data WriteRule (m : Memory) (a w v : ℕ) : Result (Unit {0}) Refusal → Memory → Type 0 where
  misaligned : (e : Refusal) → (Stands a w → ⊥) → Told e 7 None → WriteRule m a w v (Err e) m
  missing : (e : Refusal) (x : ℕ) → Stands a w → LowestNamed is_absent m a w x → Told e 8 (Some (address x)) → WriteRule m a w v (Err e) m
  unwritable : (e : Refusal) (x : ℕ) → Stands a w → NoneNamed is_absent m a w → LowestNamed is_fixed m a w x → Told e 9 (Some (address x)) → WriteRule m a w v (Err e) m
  written : (n : Memory) → Stands a w → NoneNamed is_absent m a w → NoneNamed is_fixed m a w → Replaced m a w v n → WriteRule m a w v (Ok tt) n
