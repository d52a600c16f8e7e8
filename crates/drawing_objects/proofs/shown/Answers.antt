-- `drawing_objects::shown` meets its contract. Assumes nothing.
use Rattle.drawing_pixel.specs.Object.{object_shown_of}
use Rattle.drawing_objects.proofs.shown.Goals as goal

pub returns : goal.returns
unfolding object_shown_of
returns c = c.flag.ensures
