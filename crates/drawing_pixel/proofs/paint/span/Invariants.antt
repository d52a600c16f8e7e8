use Prim.Native.Nat.{◌+◌, ◌-◌, ◌≤◌}
use Rattle.drawing_pixel.specs.Character.{shade_of, pixel_value_of}
use Rattle.drawing_pixel.specs.inner.Buffer.{Span}
use Rattle.drawing_pixel.proofs.paint.span.Given as goal

abbrev pub invariant-loop-x : goal.invariant-loop-x
invariant-loop-x l =
    (l.run.from ≤ l.x)
    × ((l.x ≤ l.run.to) × Span l.run.row l.run.from l.x (λ y. shade_of l.palette (pixel_value_of l.cell l.row (l.column + (y - l.run.from)))) l.initial.buffer l.buffer)

abbrev pub decreases-loop-x : goal.decreases-loop-x
decreases-loop-x l = l.run.to - l.x
