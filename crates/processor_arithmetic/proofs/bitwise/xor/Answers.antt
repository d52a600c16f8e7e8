-- `processor_arithmetic::bitwise::xor`: the flags are those of the value.
use Rattle.std.proofs.Common.{rules}
use Rattle.processor_arithmetic.specs.Bitwise.{xor_of}
use Rattle.processor_arithmetic.proofs.bitwise.xor.Goals as goal

pub returns : goal.returns
unfolding xor_of
returns c = c.value.ensures
