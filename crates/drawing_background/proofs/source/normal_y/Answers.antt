-- `drawing_background::source::normal_y` meets its contract. Assumes nothing.
use Rattle.std.proofs.Common.{arith}
use Rattle.drawing_pixel.specs.inner.BiasedSource.{normal_y_biased}
use Rattle.drawing_background.proofs.source.normal_y.Goals as goal

pub returns : goal.returns
unfolding normal_y_biased
returns c = (rw c.wide.ensures.0, omega arith)
