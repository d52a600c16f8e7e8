-- `processor_float::flag::order_flags`: the definition's own sum.
use Rattle.std.proofs.Common.{arith, rules}
use Rattle.processor_float.specs.Flag.{order_flags_of}
use Rattle.processor_float.proofs.flag.order_flags.Goals as goal

pub returns : goal.returns
unfolding order_flags_of
returns c = omega arith
