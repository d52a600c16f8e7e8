-- `processor_arithmetic::quotient::divu`: the flags are the quotient's.
use Rattle.std.proofs.Common.{rules}
use Rattle.processor_arithmetic.specs.Quotient.{divide_unsigned_of}
use Rattle.processor_arithmetic.proofs.quotient.divu.Goals as goal

pub returns : goal.returns
unfolding divide_unsigned_of
returns c = search rules
