-- `processor_arithmetic::flag::flags`: the definition's own sum.
use Rattle.std.proofs.Common.{arith, rules}
use Rattle.processor_arithmetic.specs.Flag.{flags_of}
use Rattle.processor_arithmetic.proofs.flag.flags.Goals as goal

pub returns : goal.returns
unfolding flags_of
returns c = omega arith
