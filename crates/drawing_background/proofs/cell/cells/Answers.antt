-- `drawing_background::cell::cells` meets its contract. Assumes nothing.
use Rattle.std.proofs.Common.{arith}
use Rattle.drawing_background.proofs.Powers.{shifted_one, cells-le}
use Rattle.drawing_background.proofs.cell.cells.Goals as goal

pub returns : goal.returns
returns c = (shifted_one c.args.k (omega arith), rw (shifted_one c.args.k (omega arith)) (cells-le c.args.k c.requires))
