use Prim.Native.Nat.{◌+◌, ◌-◌, ◌*◌, ◌≤◌}
use Rattle.drawing_pixel.specs.inner.BiasedObject.{object_pixel_biased}
use Rattle.drawing_pixel.specs.inner.Buffer.{Rows}
use Rattle.drawing_objects.proofs.object_strip.Given as goal

abbrev pub invariant-loop-r : goal.invariant-loop-r
invariant-loop-r l = (l.r ≤ 8) × Rows l.r
    (λ x q. object_pixel_biased l.vram l.registers l.o l.eye x (8 * l.strip + q)) l.initial.buffer l.buffer

abbrev pub decreases-loop-r : goal.decreases-loop-r
decreases-loop-r l = 8 - l.r
