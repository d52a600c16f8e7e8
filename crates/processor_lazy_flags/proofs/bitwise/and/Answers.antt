-- `processor_lazy_flags::bitwise::and`: the value with its flags.
use Rattle.processor_arithmetic.specs.Bitwise.{and_of}
use Rattle.std.proofs.Common.{rules}
use Rattle.processor_lazy_flags.proofs.bitwise.and.Goals as goal

pub returns : goal.returns
unfolding and_of
returns c = c.value.ensures
