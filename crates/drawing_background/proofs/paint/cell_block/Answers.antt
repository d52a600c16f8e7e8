-- `drawing_background::paint::cell_block` meets its contract: all pixels share a cell and its palette. Assumes nothing.
use Rattle.drawing_background.proofs.Sources.{block-of-whole, block-of-part}
use Rattle.drawing_pixel.specs.inner.Halfwords.{halfwords_of}
use Rattle.drawing_background.proofs.paint.cell_block.Goals as goal

pub returns-then-area : goal.returns-then-area
returns-then-area c =
    let a = c.args in
    block-of-whole a.vram.now a.registers.now (halfwords_of a.w) a.area.top a.area.bottom a.area.from
    a.area.to a.source.x a.source.y _ _ _ _ _ _
    c.wide-cell.ensures.0
    c.half.ensures
    c.cell_address.ensures.0
    c.wide-palette.ensures.0
    c.requires.vram_len.1.1.1.1.1.0 c.requires.vram_len.1.1.1.1.1.1
    c.if-area.true c.whole_rows.ensures

pub returns : goal.returns
returns c =
    let a = c.args in
    block-of-part a.vram.now a.registers.now (halfwords_of a.w) a.area.top a.area.bottom a.area.from
    a.area.to a.source.x a.source.y _ _ _ _ _ _
    c.wide-cell.ensures.0
    c.half.ensures
    c.cell_address.ensures.0 c.wide-palette.ensures.0
    c.requires.vram_len.1.1.1.1.1.0
    c.requires.vram_len.1.1.1.1.1.1
    c.part_rows.ensures
