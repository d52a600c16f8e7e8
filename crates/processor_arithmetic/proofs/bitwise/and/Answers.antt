-- `processor_arithmetic::bitwise::and`: the flags are those of the value.
use Rattle.std.proofs.Common.{rules}
use Rattle.processor_arithmetic.specs.Bitwise.{and_of}
use Rattle.processor_arithmetic.proofs.bitwise.and.Goals as goal

pub returns : goal.returns
unfolding and_of
returns c = c.value.ensures
