-- `drawing_background::world::strip_row` meets its contract: a row above or below the window is kept. Assumes nothing.
use Rattle.std.proofs.Common.{◌+◌, ◌*◌, arith}
use Rattle.drawing_pixel.proofs.Spans.{span-kept, span-change}
use Rattle.drawing_pixel.proofs.Windows.{background-above, background-below}
use Rattle.drawing_background.proofs.Clipping.{row_inside}
use Rattle.drawing_pixel.specs.inner.Halfwords.{halfwords_of}
use Rattle.drawing_background.proofs.world.strip_row.Goals as goal

pub returns-then-y-top : goal.returns-then-y-top
returns-then-y-top c = let a = c.args in
    span-kept _ _ _ _ _ (omega arith)
    (λ x v l h. background-above a.vram.now a.registers.now (halfwords_of a.w) a.view.eye x (8 * a.view.strip + a.run.row) v (omega arith))

pub returns-then-top-rows : goal.returns-then-top-rows
returns-then-top-rows c = let a = c.args in
    span-kept _ _ _ _ _ (omega arith)
    (λ x v l h. background-below a.vram.now a.registers.now (halfwords_of a.w) a.view.eye x (8 * a.view.strip + a.run.row) v (omega arith))

pub returns : goal.returns
returns c = let a = c.args in
    let pre = c.requires in
    span-change _ _ _ _ _ _ _
    (λ x v l h. row_inside a.vram.now a.registers.now (halfwords_of a.w) a.view.eye x (8 * a.view.strip + a.run.row) v a.run.from _ _
    pre.eye_value.0 (omega arith) (omega arith) pre.eye_value.1.0 l (omega arith) (omega arith) (omega arith))
    c.row.ensures
