-- `drawing_background::paint::plain_block` meets its contract: the rows of the first row of cells, then those of the second. Assumes nothing.
use Rattle.std.proofs.Common.{◌≡◌, ◌+◌, ◌-◌, ap, arith}
use Rattle.drawing_pixel.specs.inner.BiasedCell.{source_pixel_biased}
use Rattle.drawing_pixel.proofs.Blocks.{block-under, block-change}
use Rattle.drawing_pixel.specs.inner.Halfwords.{halfwords_of}
use Rattle.drawing_background.proofs.paint.plain_block.Goals as goal

pub returns-then-mid-area : goal.returns-then-mid-area
returns-then-mid-area c = rw c.if-mid-area.true at c.cells_block.ensures

pub returns : goal.returns
returns c =
    let a = c.args in
    let mid = c.least-mid.result in
    let pre = c.requires in
    let below = c.least-mid.ensures in
    block-under _ mid _ _ _ _ _ _ _ (omega (arith, pre.vram_len.1.1.1.0, below)) (omega
    (arith, pre.vram_len.1.1.1.0, below)) (omega (arith, pre.vram_len.1.1.1.1.0))
    c.cells_block.ensures
    (block-change _ _ _ _ _ _ _ _
    (λ x r v l h t u.
    let e : a.source.y + (mid - a.area.top) + (r - mid) ≡ a.source.y + (r - a.area.top) = omega (arith, t, pre.vram_len.1.1.1.0, below) in
    ap (λ y. source_pixel_biased a.vram.now a.registers.now (halfwords_of a.w) (a.source.x + (x - a.area.from)) y v) e)
    c.cells_block-2.ensures)
