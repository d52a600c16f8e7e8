-- `processor_float::arithmetic::word_of`: a NaN, or a number.
use Rattle.std.proofs.Common.{sym, ◌∙◌, rules}
use Rattle.processor_float.proofs.Tested.{nan-word}
use Rattle.processor_float.proofs.arithmetic.word_of.Goals as goal

pub returns-then-is_nan : goal.returns-then-is_nan
returns-then-is_nan c = nan-word c.args.v (sym c.is_nan.ensures.value ∙ c.if-is_nan.true)
