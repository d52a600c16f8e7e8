-- `processor_arithmetic::bitwise::not`: the flags are those of the value.
use Rattle.std.proofs.Common.{rules}
use Rattle.processor_arithmetic.specs.Bitwise.{not_of}
use Rattle.processor_arithmetic.proofs.bitwise.not.Goals as goal

pub returns : goal.returns
unfolding not_of
returns c = c.value.ensures
