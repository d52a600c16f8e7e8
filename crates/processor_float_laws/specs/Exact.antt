-- The exact results of the four operations over whole numbers (request W4): the value of a word is a whole number of
-- units of 2 ^ -149, so that a result is a fraction, numerator / denominator, of a whole number and a natural one.
use Rattle.std.specs.Prelude.{ℕ, ◌^◌, Bool, true, false, not, ◌&&◌, leb, ltb, ℤ, pos, neg_ℤ, ◌+ℤ◌, ◌-ℤ◌, ◌*ℤ◌}
use Rattle.std.specs.Float.Ieee.{unlike}
use Rattle.word.specs.Choose.{pick}
use Rattle.processor_float.specs.Operand.{units_of, value_of}
use Rattle.processor_float.specs.declared.Operation.{Operation}
use Rattle.processor_float.specs.declared.Operation.TheVariants.{Add, Subtract, Multiply, Divide}

-- a quotient's numerator is the dividend, with the sign of the quotient
abbrev pub numerator_of : Operation → ℕ → ℕ → ℤ
numerator_of Add x y = value_of x +ℤ value_of y
numerator_of Subtract x y = value_of x -ℤ value_of y
numerator_of Multiply x y = value_of x *ℤ value_of y
numerator_of Divide x y = pick (ltb y (2 ^ 31)) (value_of x) (neg_ℤ (value_of x))

abbrev pub denominator_of : Operation → ℕ → ℕ → ℕ
denominator_of Add x y = 2 ^ 149
denominator_of Subtract x y = 2 ^ 149
denominator_of Multiply x y = 2 ^ 298
denominator_of Divide x y = units_of y

-- the sign of an exact zero (IEEE 754): a sum is -0 where both terms are negative, a product or quotient where one is
abbrev pub zero_sign_of : Operation → ℕ → ℕ → Bool
zero_sign_of Add x y = leb (2 ^ 31) x && leb (2 ^ 31) y
zero_sign_of Subtract x y = leb (2 ^ 31) x && not (leb (2 ^ 31) y)
zero_sign_of Multiply x y = unlike (leb (2 ^ 31) x) (leb (2 ^ 31) y)
zero_sign_of Divide x y = unlike (leb (2 ^ 31) x) (leb (2 ^ 31) y)

-- a whole number as a sign and a size
abbrev pub signed_size : Bool → ℕ → ℤ
signed_size true n = neg_ℤ (pos n)
signed_size false n = pos n
