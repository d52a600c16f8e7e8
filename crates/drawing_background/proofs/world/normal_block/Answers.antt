-- `drawing_background::world::normal_block` meets its contract: the rows in the window are painted, the others kept. Assumes nothing.
use Rattle.std.proofs.Common.{◌≡◌, ◌+◌, ◌-◌, ◌*◌, ◌%◌, ap, ◌∙◌, arith}
use Rattle.drawing_pixel.specs.inner.BiasedFields.{gy_biased}
use Rattle.drawing_pixel.specs.inner.BiasedSource.{normal_y_biased}
use Rattle.drawing_background.proofs.Clipping.{no-row-inside, rows_inside}
use Rattle.drawing_pixel.specs.inner.Halfwords.{halfwords_of}
use Rattle.drawing_background.proofs.world.normal_block.Goals as goal

pub returns-then-last-first : goal.returns-then-last-first
returns-then-last-first c =
    let a = c.args in
    no-row-inside a.vram.now a.registers.now (halfwords_of a.w) a.view.eye a.view.strip _ _ (omega arith)
    (omega arith) a.from a.to _ c.if-last-first.true

pub returns : goal.returns
returns c =
    let a = c.args in
    let pre = c.requires in
    let t : (c.wide.result + 32768) % 65536 ≡ gy_biased (halfwords_of a.w) = omega arith in
    rows_inside a.vram.now a.registers.now (halfwords_of a.w) a.view.eye a.view.strip _ _ (omega arith) (omega arith)
    (omega arith) pre.eye_value.0 (omega arith) a.from a.to (omega arith) (omega arith) _ _ (omega arith)
    (c.normal_y-sy.ensures.0 ∙ ap (λ n. normal_y_biased (halfwords_of a.w)
    (8 * a.view.strip + 32768 + c.least-first.result - n)) t) _ _ c.plain_block.ensures
