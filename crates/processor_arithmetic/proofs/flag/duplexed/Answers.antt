-- `processor_arithmetic::flag::duplexed`: the three bits, one after another.
use Rattle.std.proofs.Common.{rules}
use Rattle.processor_arithmetic.specs.Flag.{set_id_of, duplexed_of}
use Rattle.processor_arithmetic.proofs.flag.duplexed.Goals as goal

pub returns : goal.returns
unfolding duplexed_of set_id_of
returns c = rw (c.clear_ae.ensures, c.set_id.ensures, c.set_np.ensures)
