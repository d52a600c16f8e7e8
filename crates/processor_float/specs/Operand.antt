-- A word as an IEEE 754 single float (document 000, "Floating-Point"; request W4): bit 31 is the sign, bits 30-23 the
-- exponent's field, bits 22-0 the digits. An infinity, a NaN or a subnormal that is not zero is a reserved operand.
-- The value of any other word, and of a subnormal, is a whole number of units of 2 ^ -149, with the sign.
use Rattle.std.specs.Prelude.{ℕ, zero, suc, ◌+◌, ◌*◌, ◌/◌, ◌%◌, ◌^◌, Bool, ◌&&◌, ◌||◌, ℤ, pos, neg_ℤ, ◌==◌, from_bits, nat_le, nat_lt, Float}
use Rattle.std.specs.Float.{binary32}
use Rattle.word.specs.Choose.{pick}

-- the word without its sign
abbrev pub size_bits_of : ℕ → ℕ
size_bits_of w = w % 2 ^ 31

-- a zero of either sign
abbrev pub is_zero : ℕ → Bool
is_zero w = size_bits_of w == 0

-- "An infinity, a not-a-number or a nonzero subnormal is a reserved operand"
abbrev pub reserved_of : ℕ → Bool
reserved_of w = nat_le 0x7F800000 (size_bits_of w) || (nat_lt 0 (size_bits_of w) && nat_lt (size_bits_of w) 0x00800000)

-- the float of a word
abbrev pub float_of : ℕ → Float
float_of w = from_bits binary32 w

-- the exponent's field, and the digits
abbrev pub exponent_of : ℕ → ℕ
exponent_of w = w / 2 ^ 23 % 2 ^ 8

abbrev pub digits_of : ℕ → ℕ
digits_of w = w % 2 ^ 23

-- the size of a field and digits, in units of 2 ^ -149
abbrev pub units_in : ℕ → ℕ → ℕ
units_in zero t = t
units_in (suc x) t = (2 ^ 23 + t) * 2 ^ x

-- the size of a word's value in those units
unfoldable pub units_of : ℕ → ℕ
units_of w = units_in (exponent_of w) (digits_of w)

-- a size with a word's sign
abbrev pub signed_by : ℕ → ℕ → ℤ
signed_by w n = pick (nat_lt w (2 ^ 31)) (pos n) (neg_ℤ (pos n))

-- the value, in units of 2 ^ -149
abbrev pub value_of : ℕ → ℤ
value_of w = signed_by w (units_of w)
