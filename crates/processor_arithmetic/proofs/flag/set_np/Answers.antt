-- `processor_arithmetic::flag::set_np`: the definition's own arithmetic.
use Rattle.std.proofs.Common.{arith, rules}
use Rattle.processor_arithmetic.proofs.flag.set_np.Goals as goal

pub returns : goal.returns
returns c = omega arith
