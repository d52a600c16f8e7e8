-- ADDF.S, SUBF.S, MULF.S and DIVF.S (document 000, "Floating-Point"; request W4): the operation of IEEE 754 on single
-- floats, rounded once, to nearest, ties to even; before it the tests of the operands, in 000's order, after it those
-- of the result. x is reg2's word and y is reg1's.
use Rattle.std.specs.Prelude.{ℕ, ◌*◌, ◌^◌, Bool, true, false, not, ◌&&◌, ◌||◌, ℤ, pos, nat_lt, Float}
use Rattle.std.specs.Float.{nan, inf, fin, binary32}
use Rattle.std.specs.Float.Ieee.{up, down, add, sub, mul, div, neg, eq}
use Rattle.word.specs.Choose.{pick}
use Rattle.processor_float.specs.Operand.{reserved_of, is_zero, float_of}
use Rattle.processor_float.specs.declared.Operation.{Operation}
use Rattle.processor_float.specs.declared.Operation.TheVariants.{Add, Subtract, Multiply, Divide}
use Rattle.processor_float.specs.declared.FloatOutcome.{FloatOutcome}
use Rattle.processor_float.specs.declared.FloatOutcome.TheVariants.{Number, Reserved, Invalid, ZeroDivide}
use Rattle.processor_float.specs.declared.FloatOutcome.TheVariants.{Overflow}

-- reg2 + reg1, reg2 - reg1, reg2 * reg1, reg2 / reg1
abbrev pub computed_of : Operation → Float → Float → Float
computed_of Add a b = add binary32 a b
computed_of Subtract a b = sub binary32 a b
computed_of Multiply a b = mul binary32 a b
computed_of Divide a b = div binary32 a b

abbrev pub is_divide : Operation → Bool
is_divide Add = false
is_divide Subtract = false
is_divide Multiply = false
is_divide Divide = true

-- whether the exact result is zero; a is x's float and b is y's
abbrev pub vanishes_of : (op : Operation) (x y : ℕ) (a b : Float) → Bool
vanishes_of Add x y a b = eq a (neg b)
vanishes_of Subtract x y a b = eq a b
vanishes_of Multiply x y a b = is_zero x || is_zero y
vanishes_of Divide x y a b = is_zero x

-- a size m * 2 ^ e below 2 ^ -126
abbrev pub is_tiny : ℕ → ℤ → Bool
is_tiny m e = nat_lt (m * up e * 2 ^ 126) (down e)

-- what a rounded result comes to, `vanishes` saying whether the exact result is zero: 2 ^ 128 or more is an infinity;
-- below 2 ^ -126 it is a zero of its sign, and it underflowed unless the exact result is zero. No two finite numbers
-- give a NaN but 0 / 0.
unfoldable pub settled_of : Bool → Float → FloatOutcome
settled_of vanishes nan = Number nan false
settled_of vanishes (inf s) = Overflow
settled_of vanishes (fin s m e) = pick (is_tiny m e) (Number (fin s 0 (pos 0)) (not vanishes)) (Number (fin s m e) false)

-- the operation on two numbers
abbrev pub float_result_of : Operation → ℕ → ℕ → FloatOutcome
float_result_of op x y =
    let a = float_of x in
    let b = float_of y in
    settled_of (vanishes_of op x y a b) (computed_of op a b)

-- the tests in their order: reserved operand, invalid, zero divide, and overflow by the result
unfoldable pub outcome_of : Operation → ℕ → ℕ → FloatOutcome
outcome_of op x y =
    pick (reserved_of x || reserved_of y) Reserved
    (pick (is_divide op && is_zero y) (pick (is_zero x) Invalid ZeroDivide) (float_result_of op x y))
