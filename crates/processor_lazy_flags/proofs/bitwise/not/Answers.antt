-- `processor_lazy_flags::bitwise::not`: the value with its flags.
use Rattle.processor_arithmetic.specs.Bitwise.{not_of}
use Rattle.std.proofs.Common.{rules}
use Rattle.processor_lazy_flags.proofs.bitwise.not.Goals as goal

pub returns : goal.returns
unfolding not_of
returns c = c.value.ensures
