-- Products over the whole numbers (document 000, "Arithmetic"; paper 01): the two words of MUL, read as one signed
-- number of 64 bits, are the product of the signed readings; those of MULU are the product. OV says that the 64-bit
-- product is not the sign extension of its low word, for both.
use Rattle.std.specs.Prelude.{◌≡◌, ℕ, ◌+◌, ◌*◌, ◌%◌, ◌^◌, ◌<◌, ◌*ℤ◌, nat_le}
use Rattle.word.specs.Bit.{bit_at}
use Rattle.processor_arithmetic.specs.Flag.{bit_of}
use Rattle.processor_arithmetic.specs.Product.{overflows_of, words_of, product_of, multiply_of, multiply_unsigned_of}
use Rattle.processor_arithmetic.specs.declared.Pair.{Pair}
use Rattle.processor_arithmetic.specs.Integer.{signed, signed64, outside}
use Rattle.processor_arithmetic.specs.Places.{Placed}

-- the two words as one number of 64 bits
abbrev pub whole : Pair → ℕ
whole p = p.r30 * 2 ^ 32 + p.reg2

-- the words of a number of 64 bits
pub record Words (w : ℕ) (p : Pair) : Type 0 where
  pub high : p.r30 < 2 ^ 32
  pub low : p.reg2 < 2 ^ 32
  pub both : whole p ≡ w

-- every flag of a product at its place: CY is kept, S and Z are those of the low word
abbrev pub WordsPlaced : Type 0
WordsPlaced =
    (w psw : ℕ) → w < 2 ^ 64 → Placed psw (bit_at 3 psw) (overflows_of w) (w % 2 ^ 32) (words_of w psw).psw

-- the two words of a product are words, and make it up
abbrev pub WordsWhole : Type 0
WordsWhole =
    (w psw : ℕ) → w < 2 ^ 64 → Words w (words_of w psw)

-- MUL: r30 and reg2 are words, those of the product
abbrev pub MultiplyWords : Type 0
MultiplyWords =
    (a b psw : ℕ) → Words (product_of a b) (multiply_of a b psw)

-- MUL: the two words, read as one signed number, are the product of the signed readings
abbrev pub MultiplySigned : Type 0
MultiplySigned =
    (a b psw : ℕ) → a < 2 ^ 32 → b < 2 ^ 32 → signed64 (whole (multiply_of a b psw)) ≡ signed a *ℤ signed b

-- OV of MUL: the product of the signed readings is not a signed word
abbrev pub MultiplyOverflow : Type 0
MultiplyOverflow =
    (a b psw : ℕ) → a < 2 ^ 32 → b < 2 ^ 32
    → bit_at 2 (multiply_of a b psw).psw ≡ bit_of (outside (signed a *ℤ signed b))

-- MULU: r30 and reg2 are words, and make up the product
abbrev pub MultiplyUnsigned : Type 0
MultiplyUnsigned =
    (a b psw : ℕ) → a < 2 ^ 32 → b < 2 ^ 32 → Words (a * b) (multiply_unsigned_of a b psw)

-- OV of MULU, by the same rule: the 64-bit product, read signed, is not a signed word
abbrev pub MultiplyUnsignedOverflow : Type 0
MultiplyUnsignedOverflow =
    (a b psw : ℕ) → a < 2 ^ 32 → b < 2 ^ 32
    → bit_at 2 (multiply_unsigned_of a b psw).psw ≡ bit_of (outside (signed64 (a * b)))

-- so OV of MULU is 1 exactly where the product is 2 ^ 31 or more: none of two words reaches 2 ^ 64 - 2 ^ 31
abbrev pub MultiplyUnsignedLarge : Type 0
MultiplyUnsignedLarge =
    (a b psw : ℕ) → a < 2 ^ 32 → b < 2 ^ 32
    → bit_at 2 (multiply_unsigned_of a b psw).psw ≡ bit_of (nat_le (2 ^ 31) (a * b))
