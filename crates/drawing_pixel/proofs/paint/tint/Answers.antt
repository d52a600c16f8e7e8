-- `drawing_pixel::paint::tint` meets its contract: of three shades the one of the value is taken. Assumes nothing.
use Prim.Native.Nat.{◌<◌}
use native.Mathlib.Omega.{arith}
use Rattle.drawing_pixel.specs.Character.{two_bits_of}
use Rattle.drawing_pixel.proofs.Pairs.{pair_lt}
use Rattle.drawing_pixel.proofs.Masks.{three-small, one_of_three}
use Rattle.drawing_pixel.proofs.Small.{choice-small}
use Rattle.drawing_pixel.proofs.paint.tint.Goals as goal

pub returns : goal.returns
returns c =
    let a = c.args in
    let one : c.choice-one.result < 4 =
    rw c.choice-one.ensures (choice-small
    c.holds.result
    c.shade.result 0
    c.shade.ensures.1 (omega arith)) in
    let two : c.choice-two.result < 4 =
    rw c.choice-two.ensures (choice-small
    c.holds-2.result
    c.shade-2.result 0 c.shade-2.ensures.1
    (omega arith)) in
    let three : c.choice-three.result < 4 =
    rw c.choice-three.ensures (choice-small c.holds-3.result c.shade-3.result 0 c.shade-3.ensures.1 (omega arith)) in (
      three-small _ _ _ one two three,
      λ p l e.
          rw (
            c.choice-three.ensures,
            c.shade-3.ensures.0,
            c.holds-3.ensures p l e,
            c.choice-two.ensures,
            c.shade-2.ensures.0,
            c.holds-2.ensures p l e,
            c.choice-one.ensures,
            c.shade.ensures.0,
            c.holds.ensures p l e,
          )
          (one_of_three a.palette (two_bits_of a.row p) (pair_lt a.row p)),
    )
