-- Each bit of AND, OR, XOR and NOT (document 000, "Bitwise"): bit k of the result is made of bit k of the operands. Of
-- two bits the lesser is their and, the greater their or, and the last digit of their sum their exclusive or.
use Rattle.std.specs.Prelude.{◌≡◌, ℕ, ◌+◌, ◌-◌, ◌*◌, ◌/◌, ◌%◌, ◌^◌, ◌<◌, min, max}
use Rattle.word.specs.Bit.{bit_at}
use Rattle.processor_arithmetic.specs.Bitwise.{and_of, or_of, xor_of, not_of}

-- the complement of a number of j + k bits: that of its upper j bits, then that of its lower k
abbrev pub Complement : Type 0
Complement =
    (a j k : ℕ) → a < 2 ^ (j + k)
    → 2 ^ (j + k) - 1 - a ≡ (2 ^ j - 1 - a / 2 ^ k) * 2 ^ k + (2 ^ k - 1 - a % 2 ^ k)

-- AND
abbrev pub AndBit : Type 0
AndBit =
    (a b psw k : ℕ) → bit_at k (and_of a b psw).value ≡ min (bit_at k a) (bit_at k b)

-- OR
abbrev pub OrBit : Type 0
OrBit =
    (a b psw k : ℕ) → bit_at k (or_of a b psw).value ≡ max (bit_at k a) (bit_at k b)

-- XOR
abbrev pub XorBit : Type 0
XorBit =
    (a b psw k : ℕ) → bit_at k (xor_of a b psw).value ≡ (bit_at k a + bit_at k b) % 2

-- NOT, of the 32 bits of a word
abbrev pub NotBit : Type 0
NotBit =
    (b psw k : ℕ) → b < 2 ^ 32 → k < 32 → bit_at k (not_of b psw).value ≡ 1 - bit_at k b
