-- `processor_arithmetic::shift::shr`: the last bit out is CY.
use Rattle.std.proofs.Common.{rules}
use Rattle.processor_arithmetic.specs.Shift.{shift_right_of}
use Rattle.processor_arithmetic.proofs.shift.shr.Goals as goal

pub returns : goal.returns
unfolding shift_right_of
returns c = rw (← c.right_out.ensures.0) c.shifted.ensures
