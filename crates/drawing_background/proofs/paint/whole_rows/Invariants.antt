use Rattle.std.proofs.Common.{◌+◌, ◌-◌, ◌≤◌}
use Rattle.word.specs.LittleEndian.{half_at}
use Rattle.drawing_pixel.specs.Character.{row_address_of, pixel_value_of, shade_of}
use Rattle.drawing_pixel.specs.inner.Buffer.{Block}
use Rattle.drawing_background.proofs.paint.whole_rows.Given as goal

abbrev pub invariant-loop-r : goal.invariant-loop-r
invariant-loop-r l =
    (l.area.top ≤ l.r)
    × ((l.r ≤ l.area.bottom)
    × Block l.area.top l.r l.area.from l.area.to (λ x q. shade_of l.palette (pixel_value_of l.cell (half_at l.vram
    (row_address_of l.cell (l.y + (q - l.area.top)))) (x - l.area.from))) l.initial.buffer l.buffer)

abbrev pub decreases-loop-r : goal.decreases-loop-r
decreases-loop-r l = l.area.bottom - l.r
