-- What each of the four operations answers, by the exact result and its rounding alone (request W4). The statements;
-- their proofs are `each-answered` and `traps-first` in proofs/Answering.
use Rattle.std.specs.Prelude.{ℕ, ◌^◌, ◌<◌, ◌≤◌, ◌≡◌, Bool, true, false, not, ◌&&◌, ◌||◌, eqb, pos, nat_abs, Float}
use Rattle.std.specs.Float.{fin, binary32}
use Rattle.std.specs.Float.Ieee.{to_bits}
use Rattle.processor_float.specs.Operand.{reserved_of, is_zero}
use Rattle.processor_float.specs.Arithmetic.{is_divide, outcome_of}
use Rattle.processor_float.specs.declared.Operation.{Operation}
use Rattle.processor_float.specs.declared.FloatOutcome.TheVariants.{Number, Reserved, Invalid, ZeroDivide, Overflow}
use Rattle.processor_float_laws.specs.Exact.{numerator_of, denominator_of, zero_sign_of, signed_size}
use Rattle.processor_float_laws.specs.Nearest.{NearestEven}
use Rattle.processor_float_laws.specs.Rounded.{rounded_of}

-- a pair that does not trap before the result is known: no reserved operand, and no division by zero
abbrev pub HasResult : Operation → ℕ → ℕ → Type 0
HasResult op x y = ((reserved_of x || reserved_of y) ≡ false) × ((is_divide op && is_zero y) ≡ false)

-- the rounded size of the exact result, in units of 2 ^ -149
abbrev pub magnitude_size_of : Operation → ℕ → ℕ → ℕ
magnitude_size_of op x y = rounded_of (nat_abs (numerator_of op x y)) (denominator_of op x y)

-- the answer, by that size: 2 ^ 277 units are 2 ^ 128, and 2 ^ 23 are 2 ^ -126. Below that it is a zero of the exact
-- result's sign, and it underflowed just where the exact result is not zero; else it is the nearest float, ties to even
pub record Answered (op : Operation) (x y : ℕ) : Type 0 where
  pub sign : Bool
  pub signs : numerator_of op x y ≡ signed_size sign (nat_abs (numerator_of op x y))
  pub zero_signs : nat_abs (numerator_of op x y) ≡ 0 → sign ≡ zero_sign_of op x y
  pub overflow : 2 ^ 277 ≤ magnitude_size_of op x y → outcome_of op x y ≡ Overflow
  pub underflow : magnitude_size_of op x y < 2 ^ 23
      → outcome_of op x y ≡ Number (fin sign 0 (pos 0)) (not (eqb (nat_abs (numerator_of op x y)) 0))
  pub value : Float
  pub number :
      2 ^ 23 ≤ magnitude_size_of op x y → magnitude_size_of op x y < 2 ^ 277 → outcome_of op x y ≡ Number value false
  pub nearest : 2 ^ 23 ≤ magnitude_size_of op x y → magnitude_size_of op x y < 2 ^ 277
      → NearestEven (numerator_of op x y) (denominator_of op x y) (to_bits binary32 value)

abbrev pub EachAnswered : Type 0
EachAnswered = (op : Operation) (x y : ℕ) → HasResult op x y → Answered op x y

-- the traps before that, in their order: each exactly where its condition holds and none before it does
pub record Traps (op : Operation) (x y : ℕ) : Type 0 where
  pub reserved : (reserved_of x || reserved_of y) ≡ true → outcome_of op x y ≡ Reserved
  pub invalid : (reserved_of x || reserved_of y) ≡ false → (is_divide op && is_zero y) ≡ true → is_zero x ≡ true
      → outcome_of op x y ≡ Invalid
  pub zero_divide : (reserved_of x || reserved_of y) ≡ false → (is_divide op && is_zero y) ≡ true → is_zero x ≡ false
      → outcome_of op x y ≡ ZeroDivide
