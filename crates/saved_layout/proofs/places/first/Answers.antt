-- `saved_layout::places::first` meets its contract. Assumes nothing.
use native.Mathlib.Omega.{arith}
use Rattle.saved_layout.proofs.Positions.{first_one, first_two}
use Rattle.saved_layout.proofs.places.first.Goals as goal

pub returns-in-One : goal.returns-in-One
returns-in-One c =
    let e = rw c.in-One.is at c.count-bodies.ensures.0 in
    (rw c.in-One.is (omega (arith, first_one c.args.pak)), omega arith)

pub returns-in-Two : goal.returns-in-Two
returns-in-Two c =
    let e = rw c.in-Two.is at c.count-bodies.ensures.0 in
    (rw c.in-Two.is (omega (arith, first_two c.args.pak)), omega arith)
