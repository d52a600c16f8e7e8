-- `drawing_pixel::paint::place` meets its contract: of two units the mask takes one. Assumes nothing.
use Rattle.drawing_pixel.proofs.Places.{unit-of}
use Rattle.drawing_pixel.proofs.paint.place.Goals as goal

pub returns : goal.returns
returns c flip e = unit-of c.args.column c.args.mirror c.requires flip e
