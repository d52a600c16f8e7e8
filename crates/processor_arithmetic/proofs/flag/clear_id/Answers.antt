-- `processor_arithmetic::flag::clear_id`: the definition's own arithmetic.
use Rattle.std.proofs.Common.{arith, rules}
use Rattle.processor_arithmetic.specs.Flag.{clear_id_of}
use Rattle.processor_arithmetic.proofs.flag.clear_id.Goals as goal

pub returns : goal.returns
unfolding clear_id_of
returns c = omega arith
