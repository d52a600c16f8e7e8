-- Shifts (document 000, "Bitwise"; paper 01: amounts mod 32): SAR divides the signed reading by 2 ^ n and rounds down,
-- and CY is the last bit out: bit 32 - n to the left, bit n - 1 to the right, and 0 for amount 0.
use Rattle.std.specs.Prelude.{◌≡◌, ℕ, ◌-◌, ◌%◌, ◌^◌, ◌<◌, pos, ◌+ℤ◌, ◌*ℤ◌}
use Rattle.word.specs.Bit.{bit_at}
use Rattle.processor_arithmetic.specs.Shift.{left_out_of, right_out_of, shift_left_of, shift_right_of, shift_arithmetic_of}
use Rattle.processor_arithmetic.specs.Integer.{signed}
use Rattle.processor_arithmetic.specs.Places.{Placed}

-- every flag of SHL at its place: OV is 0, S and Z are those of the result
abbrev pub ShiftLeftPlaced : Type 0
ShiftLeftPlaced =
    (a b psw : ℕ)
    → Placed psw (left_out_of a (b % 32)) 0 (shift_left_of a b psw).value (shift_left_of a b psw).psw

-- CY of SHL: bit 32 - n of the operand, and 0 where nothing moves
abbrev pub ShiftLeftOut : Type 0
ShiftLeftOut =
    (a b psw : ℕ) → 0 < b % 32 → bit_at 3 (shift_left_of a b psw).psw ≡ bit_at (32 - b % 32) a

abbrev pub ShiftLeftNone : Type 0
ShiftLeftNone =
    (a b psw : ℕ) → b % 32 ≡ 0 → bit_at 3 (shift_left_of a b psw).psw ≡ 0

-- every flag of SHR at its place
abbrev pub ShiftRightPlaced : Type 0
ShiftRightPlaced =
    (a b psw : ℕ) → a < 2 ^ 32
    → Placed psw (right_out_of a (b % 32)) 0 (shift_right_of a b psw).value (shift_right_of a b psw).psw

-- CY of SHR: bit n - 1 of the operand, and 0 where nothing moves
abbrev pub ShiftRightOut : Type 0
ShiftRightOut =
    (a b psw : ℕ) → a < 2 ^ 32 → 0 < b % 32 → bit_at 3 (shift_right_of a b psw).psw ≡ bit_at (b % 32 - 1) a

abbrev pub ShiftRightNone : Type 0
ShiftRightNone =
    (a b psw : ℕ) → a < 2 ^ 32 → b % 32 ≡ 0 → bit_at 3 (shift_right_of a b psw).psw ≡ 0

-- every flag of SAR at its place
abbrev pub ShiftArithmeticPlaced : Type 0
ShiftArithmeticPlaced =
    (a b psw : ℕ) → a < 2 ^ 32
    → Placed psw (right_out_of a (b % 32)) 0 (shift_arithmetic_of a b psw).value (shift_arithmetic_of a b psw).psw

-- CY of SAR: as of SHR
abbrev pub ShiftArithmeticOut : Type 0
ShiftArithmeticOut =
    (a b psw : ℕ) → a < 2 ^ 32 → 0 < b % 32
    → bit_at 3 (shift_arithmetic_of a b psw).psw ≡ bit_at (b % 32 - 1) a

abbrev pub ShiftArithmeticNone : Type 0
ShiftArithmeticNone =
    (a b psw : ℕ) → a < 2 ^ 32 → b % 32 ≡ 0 → bit_at 3 (shift_arithmetic_of a b psw).psw ≡ 0

-- SAR, read signed, is the signed reading divided by 2 ^ n and rounded down: what is left over is not negative and less
-- than 2 ^ n
abbrev pub ShiftArithmeticFloor : Type 0
ShiftArithmeticFloor =
    (a b psw : ℕ) → a < 2 ^ 32
    → (signed a ≡ signed (shift_arithmetic_of a b psw).value *ℤ pos (2 ^ (b % 32)) +ℤ pos (a % 2 ^ (b % 32)))
    × (a % 2 ^ (b % 32) < 2 ^ (b % 32))
