-- `drawing_pixel::object::object_left` meets its contract. Assumes nothing.
use Rattle.drawing_pixel.specs.inner.BiasedObject.{object_left_biased}
use Rattle.drawing_pixel.proofs.object.object_left.Goals as goal

pub returns : goal.returns
unfolding object_left_biased
returns c = (rw (c.edge.ensures.0, c.wide-2.ensures.0, c.wide.ensures.0), c.edge.ensures.1)
