-- `drawing_pixel::paint::kept` meets its contract: nothing or the two bits of row r are taken out. Assumes nothing.
use native.Mathlib.Omega.{arith}
use lib.Bits.{and_le_l}
use Rattle.drawing_pixel.proofs.Masks.{kept-of}
use Rattle.drawing_pixel.proofs.Small.{choice-small}
use Rattle.drawing_pixel.proofs.paint.kept.Goals as goal

pub placed-requires : goal.placed-requires
placed-requires c = (rw c.choice.ensures (choice-small c.args.blank 0 3 (omega arith) (omega arith)), c.requires)

pub overflow_sub-result : goal.overflow_sub-result
overflow_sub-result c = and_le_l _ _

pub returns : goal.returns
returns c =
    let a = c.args in
    rw (c.placed.ensures, c.choice.ensures) (kept-of a.h a.r a.blank c.requires)
