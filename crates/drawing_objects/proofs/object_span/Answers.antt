-- `drawing_objects::object_span` meets its contract: a row outside the square is kept. Assumes nothing.
use Prim.Native.Nat.{◌+◌, ◌*◌}
use native.Mathlib.Omega.{arith}
use mathlib.Core.Path.{◌∙◌}
use Rattle.drawing_pixel.proofs.Spans.{span-kept, span-change}
use Rattle.drawing_pixel.proofs.Windows.{object-outside-rows}
use Rattle.drawing_objects.proofs.Squares.{square-inside}
use Rattle.drawing_objects.proofs.object_span.Goals as goal

pub returns-then-row-ge8 : goal.returns-then-row-ge8
returns-then-row-ge8 c = let a = c.args in
    span-kept _ _ _ _ _ (omega arith)
    (λ x v l h. object-outside-rows a.vram.now a.registers.now a.o.now a.view.eye x
    (8 * a.view.strip + a.run.row) v (omega arith))

pub returns : goal.returns
returns c = let a = c.args in
    let pre = c.requires in
    span-change _ _ _ _ _ _ _
    (λ x v l h. square-inside a.vram.now a.registers.now a.o.now a.view.eye x
    (8 * a.view.strip + a.run.row) v a.run.from _ _ _ _ _
    pre.eye_value.0 c.object_row-row.ensures c.if-row-ge8.false c.object_left.ensures.0 (omega arith) l (omega arith)
    c.wide-cell.ensures.0
    (c.wide-pixels.ensures.0 ∙ rw (
      c.half.ensures,
      c.row_address.ensures.0,
    ))
    c.wide-palette.ensures.0)
    c.span.ensures
