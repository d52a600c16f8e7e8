-- Sums and differences over the whole numbers (document 000, "Arithmetic"): OV is "signed wrap-around", CY "unsigned
-- wrap-around", and where OV is 0 the result read signed is the sum or the difference.
use Rattle.std.specs.Prelude.{◌≡◌, ℕ, ◌+◌, ◌-◌, ◌%◌, ◌^◌, ◌<◌, ◌+ℤ◌, ◌-ℤ◌, nat_le, nat_lt}
use Rattle.word.specs.Bit.{bit_at}
use Rattle.processor_arithmetic.specs.Flag.{bit_of}
use Rattle.processor_arithmetic.specs.Sum.{sum_of, difference_of}
use Rattle.processor_arithmetic.specs.Integer.{signed, outside}
use Rattle.processor_arithmetic.specs.Places.{Placed}

-- every flag of a sum at its place
abbrev pub SumPlaced : Type 0
SumPlaced =
    (a b psw : ℕ) → a < 2 ^ 32 → b < 2 ^ 32
    → Placed psw (bit_of (nat_le (2 ^ 32) (a + b))) (bit_of (outside (signed a +ℤ signed b))) ((a + b) % 2 ^ 32)
    (sum_of a b psw).psw

-- OV of a sum: the sum of the signed readings is not a signed word
abbrev pub SumOverflow : Type 0
SumOverflow =
    (a b psw : ℕ) → a < 2 ^ 32 → b < 2 ^ 32
    → bit_at 2 (sum_of a b psw).psw ≡ bit_of (outside (signed a +ℤ signed b))

-- CY of a sum: the sum is 2 ^ 32 or more
abbrev pub SumCarry : Type 0
SumCarry =
    (a b psw : ℕ) → a < 2 ^ 32 → b < 2 ^ 32 → bit_at 3 (sum_of a b psw).psw ≡ bit_of (nat_le (2 ^ 32) (a + b))

-- where OV is 0, the result read signed is the sum of the signed readings
abbrev pub SumSigned : Type 0
SumSigned =
    (a b psw : ℕ) → a < 2 ^ 32 → b < 2 ^ 32 → bit_at 2 (sum_of a b psw).psw ≡ 0
    → signed (sum_of a b psw).value ≡ signed a +ℤ signed b

-- every flag of a difference at its place
abbrev pub DifferencePlaced : Type 0
DifferencePlaced =
    (a b psw : ℕ) → a < 2 ^ 32 → b < 2 ^ 32
    → Placed psw (bit_of (nat_lt a b)) (bit_of (outside (signed a -ℤ signed b))) ((a + (2 ^ 32 - b)) % 2 ^ 32)
    (difference_of a b psw).psw

-- OV of a difference: the difference of the signed readings is not a signed word
abbrev pub DifferenceOverflow : Type 0
DifferenceOverflow =
    (a b psw : ℕ) → a < 2 ^ 32 → b < 2 ^ 32
    → bit_at 2 (difference_of a b psw).psw ≡ bit_of (outside (signed a -ℤ signed b))

-- CY of a difference: the first is less than the second
abbrev pub DifferenceCarry : Type 0
DifferenceCarry =
    (a b psw : ℕ) → a < 2 ^ 32 → b < 2 ^ 32 → bit_at 3 (difference_of a b psw).psw ≡ bit_of (nat_lt a b)

-- where OV is 0, the result read signed is the difference of the signed readings
abbrev pub DifferenceSigned : Type 0
DifferenceSigned =
    (a b psw : ℕ) → a < 2 ^ 32 → b < 2 ^ 32 → bit_at 2 (difference_of a b psw).psw ≡ 0
    → signed (difference_of a b psw).value ≡ signed a -ℤ signed b
