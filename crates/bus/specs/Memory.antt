-- What the bus means: what a read answers, and what a write answers and leaves, over any memory.
use Rattle.std.specs.Prelude.{◌≡◌, ℕ, zero, suc, ◌+◌, ◌-◌, ◌*◌, ◌/◌, ◌%◌, ◌^◌, ◌<◌, ◌≤◌, Bool, true, false, cond, ◌&&◌, ◌||◌, Ok, Err, Result, ◌==◌, nat_le, nat_lt}
use Rattle.bus.specs.declared.address.PhysAddr.{PhysAddr}
use Rattle.bus.specs.declared.refusal.Refusal.{Refusal}
use Rattle.bus.specs.declared.refusal.Refusal.TheVariants.{Misaligned, Absent, Fixed}
use Rattle.bus.specs.Cell.{Cell, absent, fixed, writable}

-- each physical address with what it holds
abbrev pub Memory : Type 0
Memory = ℕ → Cell

abbrev pub address : ℕ → PhysAddr
address a = record { 0 = a }

-- the address n bytes further; behind the last comes the first
abbrev pub address_after : PhysAddr → ℕ → PhysAddr
address_after at n = address ((at.0 + n) % 2 ^ 32)

-- the number in a cell
abbrev pub held : Cell → ℕ
held absent = 0
held (fixed b) = b
held (writable b) = b

-- addresses end at 2^32, and a cell holds a byte
pub record Sound (m : Memory) : Type 0 where
  pub ends : (a : ℕ) → 2 ^ 32 ≤ a → m a ≡ absent
  pub bytes : (a : ℕ) → held (m a) < 256

abbrev pub is_width : ℕ → Bool
is_width w = w == 1 || (w == 2 || w == 4)

abbrev pub aligned : ℕ → ℕ → Bool
aligned a w = is_width w && a % w == 0

-- whether x is one of the n addresses from a on
abbrev pub within : ℕ → ℕ → ℕ → Bool
within a n x = nat_le a x && nat_lt x (a + n)

abbrev pub is_absent : Cell → Bool
is_absent absent = true
is_absent (fixed b) = false
is_absent (writable b) = false

abbrev pub is_fixed : Cell → Bool
is_fixed absent = false
is_fixed (fixed b) = true
is_fixed (writable b) = false

-- r, unless p is true of one of the n cells from a on: then the lowest such is refused
abbrev pub unless_any : {X : Type 0} → (Cell → Bool) → (PhysAddr → Refusal) → Memory → ℕ → ℕ → Result X Refusal → Result X Refusal
unless_any p refused m a zero r = r
unless_any p refused m a (suc n) r = cond (p (m a)) (Err (refused (address a))) (unless_any p refused m (suc a) n r)

-- the number of n bytes, the lowest first, of which the first is f k, the next f (k + 1)
abbrev pub little_endian : (ℕ → ℕ) → ℕ → ℕ → ℕ
little_endian f k zero = 0
little_endian f k (suc n) = f k + 256 * little_endian f (suc k) n

-- the number in the n cells from a on
abbrev pub value_at : Memory → ℕ → ℕ → ℕ
value_at m a n = little_endian (λ x. held (m x)) a n

abbrev pub read_of : Memory → ℕ → ℕ → Result ℕ Refusal
read_of m a w = cond (aligned a w) (unless_any is_absent Absent m a w (Ok (value_at m a w))) (Err Misaligned)

-- the k-th byte of a number, the lowest first
abbrev pub byte_of : ℕ → ℕ → ℕ
byte_of v k = v / 256 ^ k % 256

-- the memory with the w bytes from a on replaced by the low bytes of v
abbrev pub put : Memory → ℕ → ℕ → ℕ → Memory
put m a w v x = cond (within a w x) (writable (byte_of v (x - a))) (m x)

-- the memory that a write makes, or its refusal
abbrev pub write_of : Memory → ℕ → ℕ → ℕ → Result Memory Refusal
write_of m a w v = cond (aligned a w) (unless_any is_absent Absent m a w (unless_any is_fixed Fixed m a w (Ok (put m a w v)))) (Err Misaligned)

abbrev pub answer_of : Result Memory Refusal → Result (Unit {0}) Refusal
answer_of (Ok m) = Ok tt
answer_of (Err e) = Err e

-- what is there afterwards, where m was there before
abbrev pub memory_after : Memory → Result Memory Refusal → Memory
memory_after m (Ok n) = n
memory_after m (Err e) = m
