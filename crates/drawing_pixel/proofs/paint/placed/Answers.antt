-- `drawing_pixel::paint::placed` meets its contract: the shift stays within 16 bits. Assumes nothing.
use Rattle.drawing_pixel.proofs.Masks.{placed_same}
use Rattle.drawing_pixel.proofs.paint.placed.Goals as goal

pub returns : goal.returns
returns c = placed_same c.args.v c.requires.0 c.args.r c.requires.1
