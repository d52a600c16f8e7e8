-- Shifts with their flags (document 000, "Bitwise"; paper 01: amounts mod 32, CY the last bit out, clear for amount 0).
use Rattle.std.specs.Prelude.{ℕ, ◌-◌, ◌*◌, ◌/◌, ◌%◌, ◌^◌, ◌==◌}
use Rattle.std.specs.Int.Signed.{shr_z}
use Rattle.word.specs.Bit.{bit_at}
use Rattle.word.specs.Choose.{pick}
use Rattle.processor_arithmetic.specs.Flag.{flags_of}
use Rattle.processor_arithmetic.specs.Integer.{signed, complement_of}
use Rattle.processor_arithmetic.specs.declared.Outcome.{Outcome}

-- the last bit out to the left, bit 32 - n, and to the right, bit n - 1; clear for amount 0
unfoldable pub left_out_of : ℕ → ℕ → ℕ
left_out_of a n = pick (n == 0) 0 (bit_at (32 - n) a)

unfoldable pub right_out_of : ℕ → ℕ → ℕ
right_out_of a n = pick (n == 0) 0 (bit_at (n - 1) a)

-- a shifted right with copies of its top bit: the signed reading divided by 2 ^ n and rounded down
unfoldable pub arithmetic_right_of : ℕ → ℕ → ℕ
arithmetic_right_of a n = complement_of (2 ^ 32) (shr_z (signed a) (2 ^ n))

-- the outcome of a shift: the value, and the last bit out in CY
abbrev pub shifted_of : (value out psw : ℕ) → Outcome
shifted_of value out psw = record { value = value; psw = flags_of psw out 0 value }

-- SHL
unfoldable pub shift_left_of : ℕ → ℕ → ℕ → Outcome
shift_left_of a b psw = shifted_of (a * 2 ^ (b % 32) % 2 ^ 32) (left_out_of a (b % 32)) psw

-- SHR
unfoldable pub shift_right_of : ℕ → ℕ → ℕ → Outcome
shift_right_of a b psw = shifted_of (a / 2 ^ (b % 32)) (right_out_of a (b % 32)) psw

-- SAR
unfoldable pub shift_arithmetic_of : ℕ → ℕ → ℕ → Outcome
shift_arithmetic_of a b psw = shifted_of (arithmetic_right_of a (b % 32)) (right_out_of a (b % 32)) psw
