-- `drawing_background::cell::low_bits` meets its contract: a mask of ones is a remainder. Assumes nothing.
use Rattle.std.proofs.Common.{arith}
use Rattle.drawing_background.proofs.Powers.{shifted_one, one-le-power, masked, low-lt}
use Rattle.drawing_background.proofs.cell.low_bits.Goals as goal

pub overflow_sub-result : goal.overflow_sub-result
overflow_sub-result c = rw (shifted_one c.args.k (omega arith)) (one-le-power c.args.k)

pub returns : goal.returns
returns c = (masked c.args.u c.args.k (omega arith), rw (masked c.args.u c.args.k (omega arith)) (low-lt c.args.u c.args.k c.requires))
