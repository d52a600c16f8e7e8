-- `processor_arithmetic::sum::cmp`: the difference's flags.
use Rattle.std.proofs.Common.{rules}
use Rattle.processor_arithmetic.specs.Sum.{compare_of}
use Rattle.processor_arithmetic.proofs.sum.cmp.Goals as goal

pub returns : goal.returns
unfolding compare_of
returns c = rw c.sub.ensures
