-- `drawing_bytes::objects::list_objects` meets its contract: what is left of the list, written into the buffer now, is the whole
-- list written into the buffer at first. Assumes nothing.
use native.Mathlib.Omega.{arith}
use Rattle.drawing_bytes.proofs.Listings.{left-begun, left-more, left-done, left-size}
use Rattle.drawing_bytes.proofs.Drawn.{objects-step, objects-none}
use Rattle.drawing_bytes.proofs.objects.list_objects.Goals as goal

pub loop-k-init : goal.loop-k-init
loop-k-init c = (omega arith, left-begun _ _ _)

pub loop-k-preserved : goal.loop-k-preserved
loop-k-preserved c =
    let a = c.args in (
      omega (arith, c.list_object-n.ensures.upper_bound),
      left-more _ _ _ _ _ _ _ _ _ _ (objects-step a.vram.now a.registers.now a.pixel.eye a.pixel.x
          a.pixel.y c.loop-k.k
          c.loop-k-test.true)
          c.loop-k.invariant.1 c.list_object-n.ensures.lists,
    )

pub shape_of-output : goal.shape_of-output
shape_of-output c = left-size _ _ _ _ _ _ c.loop-k.invariant.1

pub returns : goal.returns
returns c = left-done _ _ _ _ _ _ (objects-none c.args.vram.now
    c.args.registers.now c.args.pixel.eye
    c.args.pixel.x c.args.pixel.y
    c.loop-k.k (omega arith)) c.loop-k.invariant.1
