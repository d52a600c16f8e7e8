-- A quotient of words that are not negative, and the flags of any.
use Rattle.std.proofs.Common.{◌≡◌, ℕ, ◌+◌, ◌-◌, ◌*◌, ◌/◌, ◌%◌, ◌^◌, ◌<◌, ◌≤◌, eqb, refl, div-le_self, arith}
use native.Mathlib.Nat.{mod-le}
use borrow.Author.Tests.{lt-leb}
use Rattle.processor_arithmetic.proofs.Bits.{bit-small}
use Rattle.processor_arithmetic.specs.Flag.{keep_carry_of}
use Rattle.processor_arithmetic.proofs.Reading.{plain-reading}
use Rattle.processor_arithmetic.specs.Quotient.{divide_of, divide_unsigned_of}

pub divide-plain : (a b psw : ℕ) → a < 2 ^ 31 → b < 2 ^ 31 → divide_unsigned_of a b psw ≡ divide_of a b psw
unfolding divide_of divide_unsigned_of
divide-plain a b psw ha hb =
    let q : a / b % 2 ^ 32 ≡ a / b = omega (arith, div-le_self a b) in
    let r : a % b % 2 ^ 32 ≡ a % b = omega (arith, mod-le a b) in
    let n : a / b < 2 ^ 31 = omega (arith, div-le_self a b) in
    rw (plain-reading (2 ^ 31) a ha, plain-reading (2 ^ 31) b hb) (simp (q, r, lt-leb (2 ^ 31) (a / b) n))

-- OV read back
pub keep-overflow : (psw ov v : ℕ) → ov < 2 → v < 2 ^ 32 → keep_carry_of psw ov v / 4 % 2 ≡ ov
unfolding keep_carry_of
keep-overflow psw ov v h k = omega (arith, bit-small (eqb v 0))
