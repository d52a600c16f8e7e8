-- `processor_arithmetic::shift::sar`: the last bit out is CY.
use Rattle.std.proofs.Common.{rules}
use Rattle.processor_arithmetic.specs.Shift.{shift_arithmetic_of}
use Rattle.processor_arithmetic.proofs.shift.sar.Goals as goal

pub returns : goal.returns
unfolding shift_arithmetic_of
returns c = rw (← c.right_out.ensures.0, ← c.arithmetic_right.ensures) c.shifted.ensures
