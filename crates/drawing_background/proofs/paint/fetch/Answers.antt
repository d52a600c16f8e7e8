-- `drawing_background::paint::fetch` meets its contract. Assumes nothing.
use Rattle.drawing_background.proofs.paint.fetch.Goals as goal

pub returns : goal.returns
returns c = (
  rw (
    c.wide-cell.ensures.0,
    c.half.ensures,
    c.cell_address.ensures.0,
  ),
  (
    rw (c.wide-row.ensures.0, c.half-2.ensures, c.row_address.ensures.0),
    c.wide-palette.ensures.0,
  ),
)
