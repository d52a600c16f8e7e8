-- `drawing_pixel::paint::holds` meets its contract: a pair under its mask is compared in its place. Assumes nothing.
use Prim.Native.Nat.{◌*◌, ◌^◌}
use native.Mathlib.Omega.{arith}
use mathlib.Core.Path.{◌≡◌, ap, ◌∙◌}
use lib.Bits.{bit_and}
use lib.Dec.{eqb}
use Rattle.drawing_pixel.proofs.Masks.{unit-small, unit-times, pair-tested}
use Rattle.drawing_pixel.proofs.paint.holds.Goals as goal

pub overflow_mul-result : goal.overflow_mul-result
overflow_mul-result c =
    let u = c.requires.0 in
    omega (arith, u.is, unit-small u.place u.in_row)

pub overflow_mul-result-2 : goal.overflow_mul-result-2
overflow_mul-result-2 c =
    let u = c.requires.0 in
    let e : c.args.n * c.args.unit ≡ c.args.n * 2 ^ (2 * u.place) = ap (λ m. c.args.n * m) u.is in
    omega (arith, e, unit-times c.args.n c.requires.1 u.place u.in_row)

pub returns : goal.returns
returns c p l e =
    let a = c.args in
    ap (λ u. eqb (bit_and a.row (3 * u)) (a.n * u)) e ∙ pair-tested a.row a.n p l
