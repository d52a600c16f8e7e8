-- `drawing_pixel::paint::shaded` meets its contract: what is kept and what is added make the repainted column. Assumes nothing.
use borrow.Author.Rules.{rules}
use native.Mathlib.Omega.{arith}
use lib.Dec.{eqb}
use Rattle.drawing_pixel.proofs.Masks.{repainted-sum, repainted-fits}
use Rattle.drawing_pixel.proofs.Small.{choice-small}
use Rattle.drawing_pixel.proofs.paint.shaded.Goals as goal

pub placed-requires : goal.placed-requires
placed-requires c =
    let a = c.args in (
      rw c.choice.ensures (choice-small (eqb a.v 0) 0 c.shade.result (omega arith) c.shade.ensures.1),
      c.requires.0,
    )

pub returns : goal.returns
returns c =
    let a = c.args in
    rw (c.kept.ensures, c.placed.ensures, c.choice.ensures, c.shade.ensures.0)
    (repainted-sum a.h a.r a.palette a.v c.requires.0)

pub overflow_add-result : goal.overflow_add-result
overflow_add-result c =
    let a = c.args in
    omega (arith, returns c, repainted-fits a.h a.r a.palette a.v (search rules) c.requires.0)
