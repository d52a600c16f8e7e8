use Rattle.std.proofs.Common.{◌+◌, ◌-◌, ◌≤◌}
use Rattle.drawing_pixel.specs.inner.BiasedCell.{source_pixel_biased}
use Rattle.drawing_pixel.specs.inner.Buffer.{Span}
use Rattle.drawing_pixel.specs.inner.Halfwords.{halfwords_of}
use Rattle.drawing_background.proofs.paint.plain_span.Given as goal

abbrev pub invariant-loop-x : goal.invariant-loop-x
invariant-loop-x l = (l.run.from ≤ l.x) × ((l.x ≤ l.run.to) × Span l.run.row
    l.run.from l.x (λ y. source_pixel_biased l.vram l.registers (halfwords_of l.w) (l.source.x + (y - l.run.from)) l.source.y) l.initial.buffer l.buffer)

abbrev pub decreases-loop-x : goal.decreases-loop-x
decreases-loop-x l = l.run.to - l.x
