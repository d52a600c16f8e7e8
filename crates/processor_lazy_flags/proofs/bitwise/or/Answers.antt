-- `processor_lazy_flags::bitwise::or`: the value with its flags.
use Rattle.processor_arithmetic.specs.Bitwise.{or_of}
use Rattle.std.proofs.Common.{rules}
use Rattle.processor_lazy_flags.proofs.bitwise.or.Goals as goal

pub returns : goal.returns
unfolding or_of
returns c = c.value.ensures
