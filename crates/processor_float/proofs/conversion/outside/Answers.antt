-- `processor_float::conversion::outside`: the definition's two tests.
use Rattle.std.proofs.Common.{rules, lt-ltb, le-ltb}
use Rattle.processor_float.specs.Conversion.{outside_of}
use Rattle.processor_float.proofs.conversion.outside.Goals as goal

pub returns-then-w-gt1325400064 : goal.returns-then-w-gt1325400064
unfolding outside_of
returns-then-w-gt1325400064 c = simp (lt-ltb _ _ c.if-w-gt1325400064.true)

pub returns-else-w-gt1325400064 : goal.returns-else-w-gt1325400064
unfolding outside_of
returns-else-w-gt1325400064 c = simp (le-ltb _ _ c.if-w-gt1325400064.false)
