use Prim.Native.Nat.{◌+◌, ◌-◌, ◌≤◌}
use Rattle.drawing_pixel.specs.Character.{shade_of, pixel_value_of}
use Rattle.drawing_pixel.specs.inner.Buffer.{Span}
use Rattle.drawing_pixel.proofs.paint.whole.Given as goal

abbrev pub invariant-loop-k : goal.invariant-loop-k
invariant-loop-k l =
    (l.k ≤ 8) × Span l.r l.from (l.from + l.k) (λ x. shade_of l.palette (pixel_value_of l.cell l.row (x - l.from))) l.initial.buffer l.buffer

abbrev pub decreases-loop-k : goal.decreases-loop-k
decreases-loop-k l = 8 - l.k
