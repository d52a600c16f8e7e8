-- `processor_arithmetic::flag::clear_ae`: the definition's own arithmetic.
use Rattle.std.proofs.Common.{arith, rules}
use Rattle.processor_arithmetic.proofs.flag.clear_ae.Goals as goal

pub returns : goal.returns
returns c = omega arith
