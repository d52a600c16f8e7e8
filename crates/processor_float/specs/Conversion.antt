-- CVT.SW and TRNC.SW (document 000, "Floating-Point"; request W4), over whole numbers: the operand's size is a number
-- of units of 2 ^ -149, and 2 ^ 149 units are 1. CVT.WS is `of_int binary32` of the signed word.
use Rattle.std.specs.Prelude.{ℕ, ◌/◌, ◌%◌, ◌^◌, Bool, ◌||◌, ◌==◌, nat_lt}
use Rattle.std.specs.Float.Ieee.Nearest.{closest}
use Rattle.word.specs.Choose.{pick}
use Rattle.processor_arithmetic.specs.Sign.{negative_of}
use Rattle.processor_arithmetic.specs.Integer.{outside}
use Rattle.processor_float.specs.Operand.{reserved_of, units_of, signed_by}
use Rattle.processor_float.specs.declared.FloatOutcome.{FloatOutcome}
use Rattle.processor_float.specs.declared.FloatOutcome.TheVariants.{Word, Reserved, Invalid}

-- the size to the nearest whole number, a tie to the even one
unfoldable pub nearest_size_of : ℕ → ℕ
nearest_size_of w = closest (units_of w) (2 ^ 149)

-- the size without its fraction
unfoldable pub truncated_size_of : ℕ → ℕ
truncated_size_of w = units_of w / 2 ^ 149

-- the word of a size with the operand's sign
unfoldable pub signed_word_of : ℕ → ℕ → ℕ
signed_word_of w n = pick (nat_lt w (2 ^ 31)) n (negative_of n)

-- a conversion to the whole number of size n: "reserved operand", then "invalid" outside the signed word
abbrev pub converted_of : ℕ → ℕ → FloatOutcome
converted_of w n = pick (reserved_of w) Reserved (pick (outside (signed_by w n)) Invalid (Word (signed_word_of w n)))

-- CVT.SW
unfoldable pub nearest_of : ℕ → FloatOutcome
nearest_of w = converted_of w (nearest_size_of w)

-- TRNC.SW
unfoldable pub truncated_of : ℕ → FloatOutcome
truncated_of w = converted_of w (truncated_size_of w)

-- the same test on the word: above 2 ^ 31 in size, or 2 ^ 31 itself
unfoldable pub outside_of : ℕ → Bool
outside_of w = nat_lt 0x4F000000 (w % 2 ^ 31) || w == 0x4F000000
