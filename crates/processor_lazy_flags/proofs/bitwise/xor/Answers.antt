-- `processor_lazy_flags::bitwise::xor`: the value with its flags.
use Rattle.processor_arithmetic.specs.Bitwise.{xor_of}
use Rattle.std.proofs.Common.{rules}
use Rattle.processor_lazy_flags.proofs.bitwise.xor.Goals as goal

pub returns : goal.returns
unfolding xor_of
returns c = c.value.ensures
