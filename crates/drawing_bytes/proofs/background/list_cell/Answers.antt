-- `drawing_bytes::background::list_cell` meets its contract: the cell, then its character row. Assumes nothing.
use mathlib.Core.Path.{◌∙◌}
use Rattle.drawing_bytes.proofs.Sources.{cell-listing}
use Rattle.drawing_pixel.specs.inner.Halfwords.{halfwords_of}
use Rattle.drawing_bytes.proofs.background.list_cell.Goals as goal

pub returns : goal.returns
returns c =
    cell-listing c.args.vram.now (halfwords_of c.args.w)
    c.args.sx c.args.sy _ _ _ _ _ _ _ _ _
    c.cell_address-at.ensures.0 (c.wide-cell.ensures.0
    ∙ c.half.ensures)
    c.row_address.ensures.0
    c.put_half-next.ensures c.put_half.ensures
