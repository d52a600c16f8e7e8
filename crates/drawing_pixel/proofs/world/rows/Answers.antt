-- `drawing_pixel::world::rows` meets its contract: each branch is a case of the rows of a world. Assumes nothing.
use native.Mathlib.Omega.{arith}
use Rattle.drawing_pixel.proofs.Heights.{rows-affine, rows-in-image, rows-outside}
use Rattle.drawing_pixel.specs.inner.Halfwords.{halfwords_of}
use Rattle.drawing_pixel.proofs.world.rows.Goals as goal

pub returns-then-bgm-eq2 : goal.returns-then-bgm-eq2
returns-then-bgm-eq2 c = omega (arith, rows-affine (halfwords_of c.args.w) c.if-bgm-eq2.true)

pub returns-then-top-lt224 : goal.returns-then-top-lt224
returns-then-top-lt224 c = omega (
  arith,
  rows-in-image (halfwords_of c.args.w)
      c.if-bgm-eq2.false (omega arith),
)

pub returns : goal.returns
returns c = omega (
  arith,
  rows-outside (halfwords_of c.args.w)
      c.if-bgm-eq2.false (omega arith) (omega arith),
)
