-- DIV and DIVU by a divisor that is not zero (document 000, "Arithmetic"; paper 01): remainder to r30, quotient to
-- reg2.
use Rattle.std.specs.Prelude.{ℕ, ◌/◌, ◌%◌, ◌^◌, int_div, int_rem}
use Rattle.processor_arithmetic.specs.Flag.{bit_of, keep_carry_of}
use Rattle.processor_arithmetic.specs.Integer.{signed, outside, complement_of}
use Rattle.processor_arithmetic.specs.declared.Pair.{Pair}

-- DIVU
unfoldable pub divide_unsigned_of : ℕ → ℕ → ℕ → Pair
divide_unsigned_of a b psw =
    let q = a / b in
    record { r30 = a % b; reg2 = q; psw = keep_carry_of psw 0 q }

-- DIV "truncates towards zero", over the signed readings: the quotient is `quot_z`, rounded towards zero, the remainder
-- `rem_z`, with the dividend's sign. OV where the quotient is not a signed word: 0x80000000 by -1 alone, whose quotient
-- 2 ^ 31 is the word 0x80000000 (theorems `divide-overflow`, `divide-at-overflow`)
unfoldable pub divide_of : ℕ → ℕ → ℕ → Pair
divide_of a b psw =
    let q = int_div (signed a) (signed b) in
    let v = complement_of (2 ^ 32) q in
    let r = complement_of (2 ^ 32) (int_rem (signed a) (signed b)) in
    record { r30 = r; reg2 = v; psw = keep_carry_of psw (bit_of (outside q)) v }
