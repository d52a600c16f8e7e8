-- `drawing_background::paint::cells_block` meets its contract: cell after cell of a row of cells. Assumes nothing.
use Rattle.std.proofs.Common.{◌≡◌, ◌+◌, ◌-◌, ap, arith, rules}
use Rattle.drawing_pixel.specs.inner.BiasedCell.{source_pixel_biased}
use Rattle.drawing_pixel.proofs.Blocks.{block-no-column, block-beside, block-change}
use Rattle.drawing_pixel.specs.inner.Halfwords.{halfwords_of}
use Rattle.drawing_background.proofs.paint.cells_block.Goals as goal

pub loop-x-init : goal.loop-x-init
loop-x-init c = (omega arith, (omega arith, block-no-column _ _ _ _ _))

pub overflow_sub-at : goal.overflow_sub-at
overflow_sub-at c = omega arith

pub overflow_add-at : goal.overflow_add-at
overflow_add-at c = omega arith

pub overflow_sub-at-in-loop-x : goal.overflow_sub-at-in-loop-x
overflow_sub-at-in-loop-x c = omega arith

pub overflow_add-x : goal.overflow_add-x
overflow_add-x c = omega arith

pub least-next-requires : goal.least-next-requires
least-next-requires c = search rules

pub cell_block-requires : goal.cell_block-requires
cell_block-requires c = omega (arith, c.loop-x.invariant.1.1.size)

pub loop-x-smaller : goal.loop-x-smaller
loop-x-smaller c = omega arith

pub loop-x-preserved : goal.loop-x-preserved
loop-x-preserved c =
    let a = c.args in
    let x = c.loop-x.x in
    let inv = c.loop-x.invariant in (
      omega arith,
      (
        omega arith,
        block-beside _ _ _ x _ _ _ _ _ inv.0 (omega arith) inv.1.1
            (block-change _ _ _ _ _ _ _ _
            (λ z r v l h t u.
            let e : a.source.x + (x - a.area.from) + (z - x) ≡ a.source.x + (z - a.area.from) = omega arith in
            ap (λ s. source_pixel_biased a.vram.now a.registers.now (halfwords_of a.w) s (a.source.y + (r - a.area.top)) v) e)
            c.cell_block.ensures),
      ),
    )

pub returns : goal.returns
returns c =
    let e : c.loop-x.x ≡ c.args.area.to = omega arith in
    rw e at c.loop-x.invariant.1.1
