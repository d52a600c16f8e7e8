-- `drawing_background::source::affine_parameter` meets its contract. Assumes nothing.
use Rattle.std.proofs.Common.{arith}
use Rattle.drawing_pixel.specs.inner.BiasedSource.{affine_parameter_biased}
use Rattle.drawing_background.proofs.source.affine_parameter.Goals as goal

pub returns : goal.returns
unfolding affine_parameter_biased
returns c = (rw c.parameter.ensures.0, omega arith)
