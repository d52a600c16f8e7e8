-- MUL and MULU (document 000, "Arithmetic"; paper 01): the 64-bit product, its high word to r30, its low word to reg2.
use Rattle.std.specs.Prelude.{ℕ, ◌*◌, ◌/◌, ◌%◌, ◌^◌, ◌*ℤ◌, ◌==◌}
use Rattle.word.specs.Choose.{pick}
use Rattle.word.specs.Extend.{extend_to}
use Rattle.processor_arithmetic.specs.Flag.{keep_carry_of}
use Rattle.processor_arithmetic.specs.Integer.{signed, complement_of}
use Rattle.processor_arithmetic.specs.declared.Pair.{Pair}

-- a signed word at 64 bits
unfoldable pub extend64_of : ℕ → ℕ
extend64_of x = extend_to 64 (2 ^ 31) x

-- OV of a product, signed or not (docs/DECISIONS.md, R8): 1 where the "full 64-bit result of a multiplication is not
-- equivalent to the 64-bit value produced by sign-extending the lower 32 bits" (000)
unfoldable pub overflows_of : ℕ → ℕ
overflows_of w = pick (w == extend64_of (w % 2 ^ 32)) 0 1

-- the two words of a 64-bit product; S and Z are the low word's
unfoldable pub words_of : ℕ → ℕ → Pair
words_of w psw =
    let low = w % 2 ^ 32 in
    record { r30 = w / 2 ^ 32; reg2 = low; psw = keep_carry_of psw (overflows_of w) low }

-- the product of the signed readings, at 64 bits
unfoldable pub product_of : ℕ → ℕ → ℕ
product_of a b = complement_of (2 ^ 64) (signed a *ℤ signed b)

-- MUL
unfoldable pub multiply_of : ℕ → ℕ → ℕ → Pair
multiply_of a b psw = words_of (product_of a b) psw

-- MULU
unfoldable pub multiply_unsigned_of : ℕ → ℕ → ℕ → Pair
multiply_unsigned_of a b psw = words_of (a * b) psw
