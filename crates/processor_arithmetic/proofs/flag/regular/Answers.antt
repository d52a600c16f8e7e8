-- `processor_arithmetic::flag::regular`: the three bits, one after another.
use Rattle.std.proofs.Common.{rules}
use Rattle.processor_arithmetic.specs.Flag.{set_id_of, regular_of}
use Rattle.processor_arithmetic.proofs.flag.regular.Goals as goal

pub returns : goal.returns
unfolding regular_of set_id_of
returns c = rw (c.clear_ae.ensures, c.set_id.ensures, c.set_ep.ensures)
