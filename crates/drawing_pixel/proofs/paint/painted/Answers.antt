-- `drawing_pixel::paint::painted` meets its contract: what is kept and what is added make the repainted column. Assumes nothing.
use borrow.Author.Rules.{rules}
use native.Mathlib.Omega.{arith}
use Rattle.drawing_pixel.specs.Character.{two_bits_of}
use Rattle.drawing_pixel.proofs.Masks.{repainted-sum, repainted-fits}
use Rattle.drawing_pixel.proofs.paint.painted.Goals as goal

pub returns : goal.returns
returns c p l e =
    let a = c.args in
    rw (c.kept.ensures, c.holds.ensures p l e, c.placed.ensures, c.tint.ensures.1 p l e)
    (repainted-sum a.h a.r a.palette (two_bits_of a.row p) c.requires.0)

pub overflow_add-result : goal.overflow_add-result
overflow_add-result c =
    let a = c.args in
    let u = c.requires.1 in
    omega (
      arith,
      returns c u.place u.in_row u.is,
      repainted-fits a.h a.r a.palette (two_bits_of a.row
          u.place) (search rules) c.requires.0,
    )
