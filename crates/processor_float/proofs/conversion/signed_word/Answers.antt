-- `processor_float::conversion::signed_word`: by the sign.
use Rattle.std.proofs.Common.{arith, rules, le-ltb, lt-ltb}
use Rattle.processor_arithmetic.specs.Sign.{negative_of}
use Rattle.processor_float.specs.Conversion.{signed_word_of}
use Rattle.processor_float.proofs.conversion.signed_word.Goals as goal

pub returns-then-w-lt2147483648 : goal.returns-then-w-lt2147483648
unfolding signed_word_of
returns-then-w-lt2147483648 c = simp (lt-ltb _ _ c.if-w-lt2147483648.true)

pub returns-else-w-lt2147483648 : goal.returns-else-w-lt2147483648
unfolding signed_word_of negative_of
returns-else-w-lt2147483648 c = simp (le-ltb _ _ c.if-w-lt2147483648.false) (omega (arith, c.wrapping_neg.ensures))
