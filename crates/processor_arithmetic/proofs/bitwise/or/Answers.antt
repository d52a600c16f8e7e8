-- `processor_arithmetic::bitwise::or`: the flags are those of the value.
use Rattle.std.proofs.Common.{rules}
use Rattle.processor_arithmetic.specs.Bitwise.{or_of}
use Rattle.processor_arithmetic.proofs.bitwise.or.Goals as goal

pub returns : goal.returns
unfolding or_of
returns c = c.value.ensures
