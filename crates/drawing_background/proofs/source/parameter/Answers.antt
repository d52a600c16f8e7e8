-- `drawing_background::source::parameter` meets its contract. Assumes nothing.
use Rattle.drawing_pixel.specs.Background.{parameter_of}
use Rattle.drawing_background.proofs.source.parameter.Goals as goal

pub returns : goal.returns
unfolding parameter_of
returns c = (
  rw (c.wide.ensures.0, c.half.ensures, c.parameter_address.ensures.0),
  c.wide.ensures.1,
)
