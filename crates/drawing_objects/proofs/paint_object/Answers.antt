-- `drawing_objects::paint_object` meets its contract: an object with no row in the strip keeps it. Assumes nothing.
use native.Mathlib.Omega.{arith}
use Rattle.drawing_pixel.proofs.Spans.{strip-kept}
use Rattle.drawing_objects.proofs.Squares.{square-far}
use Rattle.drawing_objects.proofs.paint_object.Goals as goal

pub returns-then-strip-jy-ge15 : goal.returns-then-strip-jy-ge15
returns-then-strip-jy-ge15 c = let a = c.args in
    strip-kept _ _ (λ x r v u q. square-far a.vram.now a.registers.now a.k a.eye x v a.strip r _ (omega arith) q
    (rw (c.wide-jy.ensures.0, c.half.ensures)) c.if-strip-jy-ge15.true)

pub returns : goal.returns
returns c = rw c.object-o.ensures at c.object_strip.ensures
