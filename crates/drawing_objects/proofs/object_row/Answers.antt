-- `drawing_objects::object_row` meets its contract. Assumes nothing.
use Rattle.drawing_pixel.specs.inner.BiasedObject.{object_row_biased}
use Rattle.drawing_objects.proofs.object_row.Goals as goal

pub returns : goal.returns
unfolding object_row_biased
returns c = rw c.wide.ensures.0
