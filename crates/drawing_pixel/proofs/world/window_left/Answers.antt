-- `drawing_pixel::world::window_left` meets its contract. Assumes nothing.
use Rattle.drawing_pixel.specs.inner.BiasedWindow.{window_left_biased}
use Rattle.drawing_pixel.proofs.world.window_left.Goals as goal

pub returns : goal.returns
unfolding window_left_biased
returns c = (rw (c.edge.ensures.0, c.wide-2.ensures.0, c.wide.ensures.0), c.edge.ensures.1)
