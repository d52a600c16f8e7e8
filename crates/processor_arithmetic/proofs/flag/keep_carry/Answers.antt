-- `processor_arithmetic::flag::keep_carry`: the definition's own sum.
use Rattle.std.proofs.Common.{arith, rules}
use Rattle.processor_arithmetic.specs.Flag.{keep_carry_of}
use Rattle.processor_arithmetic.proofs.flag.keep_carry.Goals as goal

pub returns : goal.returns
unfolding keep_carry_of
returns c = omega arith
