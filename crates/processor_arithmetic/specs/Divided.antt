-- Quotients over the whole numbers (document 000, "Arithmetic"; paper 01): DIV truncates towards zero and its remainder
-- has the dividend's sign, DIVU is the division of the words as they stand. The divisor is not zero.
use Rattle.std.specs.Prelude.{◌≡◌, ℕ, ◌+◌, ◌*◌, ◌^◌, ◌<◌, false, ◌≢◌, ◌==◌, int_div}
use Rattle.word.specs.Bit.{bit_at}
use Rattle.word.specs.Choose.{pick}
use Rattle.processor_arithmetic.specs.Flag.{bit_of}
use Rattle.processor_arithmetic.specs.Quotient.{divide_of, divide_unsigned_of}
use Rattle.processor_arithmetic.specs.Integer.{signed, outside}
use Rattle.processor_arithmetic.specs.Places.{Placed}
use Rattle.processor_arithmetic.specs.Truncation.{Truncated}

-- every flag of DIV at its place: CY is kept, S and Z are those of the quotient
abbrev pub DividePlaced : Type 0
DividePlaced =
    (a b psw : ℕ)
    → Placed psw (bit_at 3 psw) (bit_of (outside (int_div (signed a) (signed b)))) (divide_of a b psw).reg2
    (divide_of a b psw).psw

-- OV of DIV: 0x80000000 by -1, and nothing else
abbrev pub DivideOverflow : Type 0
DivideOverflow =
    (a b psw : ℕ) → a < 2 ^ 32 → b < 2 ^ 32 → b ≢ 0
    → bit_at 2 (divide_of a b psw).psw ≡ bit_of (pick (a == 0x80000000) (b == 0xFFFFFFFF) false)

-- there the quotient is 0x80000000 and the remainder 0
abbrev pub DivideAtOverflow : Type 0
DivideAtOverflow =
    (psw : ℕ) → ((divide_of 0x80000000 0xFFFFFFFF psw).reg2 ≡ 0x80000000) × ((divide_of 0x80000000 0xFFFFFFFF psw).r30 ≡ 0)

-- DIV, where OV is 0, truncates towards zero: quotient in reg2, remainder in r30
abbrev pub DivideTruncates : Type 0
DivideTruncates =
    (a b psw : ℕ) → a < 2 ^ 32 → b < 2 ^ 32 → b ≢ 0 → bit_at 2 (divide_of a b psw).psw ≡ 0
    → Truncated (signed a) (signed b) (signed (divide_of a b psw).reg2) (signed (divide_of a b psw).r30)

-- DIVU: dividend = quotient * divisor + remainder, and the remainder is less than the divisor
abbrev pub DivideUnsigned : Type 0
DivideUnsigned =
    (a b psw : ℕ) → b ≢ 0
    → (a ≡ (divide_unsigned_of a b psw).reg2 * b + (divide_unsigned_of a b psw).r30) × ((divide_unsigned_of a b psw).r30 < b)

-- every flag of DIVU at its place: OV is 0, CY is kept, S and Z are those of the quotient
abbrev pub DivideUnsignedPlaced : Type 0
DivideUnsignedPlaced =
    (a b psw : ℕ) → a < 2 ^ 32
    → Placed psw (bit_at 3 psw) 0 (divide_unsigned_of a b psw).reg2 (divide_unsigned_of a b psw).psw

-- OV of DIVU is 0
abbrev pub DivideUnsignedOverflow : Type 0
DivideUnsignedOverflow =
    (a b psw : ℕ) → a < 2 ^ 32 → bit_at 2 (divide_unsigned_of a b psw).psw ≡ 0
