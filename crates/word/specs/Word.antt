-- What the arithmetic of 32-bit words answers. A word is a number below 2 ^ 32; where an instruction takes it as signed, the
-- definition goes over the integers. Of the library's own: `negsuc n` is -(n + 1), `int_lt` is the order, `int_div` rounds to zero, `int_rem`
-- has the dividend's sign, `shr_z` divides and rounds down, and `cast_signed w32` takes 2 ^ 32 off a number from 2 ^ 31 on.
use Rattle.std.specs.Prelude.{ℕ, ◌+◌, ◌-◌, ◌*◌, ◌/◌, ◌%◌, ◌^◌, Bool, cond, ℤ, pos, negsuc, ◌-ℤ◌, ◌*ℤ◌, ◌==◌, bit_or, int_div, int_lt, int_rem, nat_lt}
use Rattle.std.specs.Int.Signed.{shr_z}
use Rattle.std.specs.Int.{cast_signed, w32}

-- signed(a): the integer that a word is in two's complement
abbrev pub signed : ℕ → ℤ
signed a = cast_signed w32 a

-- z[k-1:0], in two's complement
abbrev pub low_bits : ℕ → ℤ → ℕ
low_bits k (pos n) = n % 2 ^ k
low_bits k (negsuc n) = 2 ^ k - 1 - n % 2 ^ k

-- z[31:0]
abbrev pub low_word : ℤ → ℕ
low_word z = low_bits 32 z

abbrev pub word_sum : ℕ → ℕ → ℕ
word_sum a b = (a + b) % 2 ^ 32

abbrev pub word_difference : ℕ → ℕ → ℕ
word_difference a b = low_word (pos a -ℤ pos b)

abbrev pub less_signed : ℕ → ℕ → Bool
less_signed a b = int_lt (signed a) (signed b)

abbrev pub less_unsigned : ℕ → ℕ → Bool
less_unsigned a b = nat_lt a b

abbrev pub nor : ℕ → ℕ → ℕ
nor a b = 0xffffffff - bit_or a b

-- shifts, by the amount's bits [4:0]
abbrev pub shift_left : ℕ → ℕ → ℕ
shift_left a amount = a * 2 ^ (amount % 32) % 2 ^ 32

abbrev pub shift_right : ℕ → ℕ → ℕ
shift_right a amount = a / 2 ^ (amount % 32)

abbrev pub shift_right_signed : ℕ → ℕ → ℕ
shift_right_signed a amount = low_word (shr_z (signed a) (2 ^ (amount % 32)))

-- signed(a) * signed(b), in 64 bits
abbrev pub product_signed : ℕ → ℕ → ℕ
product_signed a b = low_bits 64 (signed a *ℤ signed b)

-- product[31:0], product[63:32]; the lower half is the same for signed and unsigned numbers
abbrev pub product_low : ℕ → ℕ → ℕ
product_low a b = product_signed a b % 2 ^ 32

abbrev pub product_high_signed : ℕ → ℕ → ℕ
product_high_signed a b = product_signed a b / 2 ^ 32

abbrev pub product_high_unsigned : ℕ → ℕ → ℕ
product_high_unsigned a b = a * b / 2 ^ 32

-- quotients, rounded to zero, and remainders, with the dividend's sign. By 0 the manual allows any result: ours are a quotient of ones and the dividend as remainder. The one quotient that is no signed word, of 0x80000000 by -1, keeps its low 32 bits.
abbrev pub quotient_signed : ℕ → ℕ → ℕ
quotient_signed a b = cond (b == 0) 0xffffffff (low_word (int_div (signed a) (signed b)))

abbrev pub remainder_signed : ℕ → ℕ → ℕ
remainder_signed a b = cond (b == 0) a (low_word (int_rem (signed a) (signed b)))

abbrev pub quotient_unsigned : ℕ → ℕ → ℕ
quotient_unsigned a b = cond (b == 0) 0xffffffff (a / b)

abbrev pub remainder_unsigned : ℕ → ℕ → ℕ
remainder_unsigned a b = cond (b == 0) a (a % b)

-- the integer that the lowest k bits of v are in two's complement
abbrev pub signed_bits : ℕ → ℕ → ℤ
signed_bits k v = cond (nat_lt (v % 2 ^ k) (2 ^ (k - 1))) (pos (v % 2 ^ k)) (pos (v % 2 ^ k) -ℤ pos (2 ^ k))

-- SignExtend(v[k-1:0], 32)
abbrev pub sign_extend : ℕ → ℕ → ℕ
sign_extend k v = low_word (signed_bits k v)

-- ZeroExtend(v[k-1:0], 32)
abbrev pub zero_extend : ℕ → ℕ → ℕ
zero_extend k v = v % 2 ^ k

-- the integer that {v[k-1:0], 2'b0} is in two's complement
abbrev pub signed_bits_times4 : ℕ → ℕ → ℤ
signed_bits_times4 k v = signed_bits (k + 2) (v % 2 ^ k * 4)

-- SignExtend({v[k-1:0], 2'b0}, 32)
abbrev pub sign_extend_times4 : ℕ → ℕ → ℕ
sign_extend_times4 k v = low_word (signed_bits_times4 k v)

-- {v[19:0], 12'b0}
abbrev pub upper20 : ℕ → ℕ
upper20 v = v % 2 ^ 20 * 2 ^ 12
