-- `processor_float::flag::number_flags`: the flags of a comparison with zero.
use Rattle.processor_float.specs.Flag.{number_flags_of}
use Rattle.std.proofs.Common.{rules}
use Rattle.processor_float.proofs.flag.number_flags.Goals as goal

pub returns : goal.returns
unfolding number_flags_of
returns c = rw (c.order_flags.ensures, c.underflow.ensures)
