use Rattle.std.proofs.Common.{◌+◌, ◌-◌, ◌≤◌}
use Rattle.drawing_pixel.specs.inner.BiasedCell.{source_pixel_biased}
use Rattle.drawing_pixel.specs.inner.Buffer.{Block}
use Rattle.drawing_pixel.specs.inner.Halfwords.{halfwords_of}
use Rattle.drawing_background.proofs.paint.cells_block.Given as goal

abbrev pub invariant-loop-x : goal.invariant-loop-x
invariant-loop-x l =
    (l.area.from ≤ l.x)
    × ((l.x ≤ l.area.to) × Block l.area.top l.area.bottom l.area.from l.x (λ z r. source_pixel_biased l.vram l.registers (halfwords_of l.w)
    (l.source.x + (z - l.area.from)) (l.source.y + (r - l.area.top))) l.initial.buffer l.buffer)

abbrev pub decreases-loop-x : goal.decreases-loop-x
decreases-loop-x l = l.area.to - l.x
