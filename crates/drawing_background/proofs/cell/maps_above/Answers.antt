-- `drawing_background::cell::maps_above` meets its contract. Assumes nothing.
use Rattle.drawing_background.proofs.Powers.{shifted-maps}
use Rattle.drawing_background.proofs.cell.maps_above.Goals as goal

pub returns : goal.returns
returns c = let l = shifted-maps c.args.r c.requires.0 c.args.k c.requires.1 in (l.0, rw l.0 l.1)
