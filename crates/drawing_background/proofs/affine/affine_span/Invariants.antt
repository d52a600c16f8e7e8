use Rattle.std.proofs.Common.{◌≡◌, ◌+◌, ◌-◌, ◌≤◌}
use Rattle.drawing_pixel.specs.inner.BiasedCell.{source_pixel_biased}
use Rattle.drawing_pixel.specs.inner.BiasedSource.{affine_floor_biased}
use Rattle.drawing_pixel.specs.inner.Buffer.{Span}
use Rattle.drawing_background.specs.inner.Row.{affine_sum_of, CellAt, Inked}
use Rattle.drawing_pixel.specs.inner.Halfwords.{halfwords_of}
use Rattle.drawing_background.proofs.affine.affine_span.Given as goal

abbrev pub invariant-loop-x : goal.invariant-loop-x
invariant-loop-x l =
    (l.run.from ≤ l.x)
    × ((l.x ≤ l.run.to)
    × ((CellAt l.vram l.registers (halfwords_of l.w) l.last.u l.last.v l.last.cell l.last.palette l.last.character
    × Inked l.run.row l.last.cell l.last.palette l.last.across l.last.down l.last.inks)
    × (Span l.run.row l.run.from l.x (λ y. source_pixel_biased l.vram l.registers (halfwords_of l.w) (affine_floor_biased l.course.mx l.course.dx
    (l.course.n + (y - l.run.from))) (affine_floor_biased l.course.my l.course.dy (l.course.n +
    (y - l.run.from)))) l.initial.buffer l.buffer
    × ((l.px ≡ affine_sum_of l.course.mx l.course.dx (l.course.n + (l.x - l.run.from))) × (l.py ≡ affine_sum_of l.course.my
    l.course.dy (l.course.n + (l.x - l.run.from)))))))

abbrev pub decreases-loop-x : goal.decreases-loop-x
decreases-loop-x l = l.run.to - l.x
