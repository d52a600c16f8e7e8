-- `drawing_background::source::affine_on` meets its contract: the difference is not below 0. Assumes nothing.
use Rattle.std.proofs.Common.{arith}
use Rattle.drawing_background.proofs.source.affine_on.Goals as goal

pub overflow_add-result : goal.overflow_add-result
overflow_add-result c = omega (arith, c.requires.1.0, c.requires.1.1)

pub overflow_sub-result : goal.overflow_sub-result
overflow_sub-result c = omega (arith, c.requires.0)

pub returns : goal.returns
returns c = omega (arith, c.requires.0)
