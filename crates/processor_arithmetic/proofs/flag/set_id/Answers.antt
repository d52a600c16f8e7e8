-- `processor_arithmetic::flag::set_id`: the definition's own arithmetic.
use Rattle.std.proofs.Common.{arith, rules}
use Rattle.processor_arithmetic.specs.Flag.{set_id_of}
use Rattle.processor_arithmetic.proofs.flag.set_id.Goals as goal

pub returns : goal.returns
unfolding set_id_of
returns c = omega arith
