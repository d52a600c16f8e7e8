-- `saved_salvage::listed::replaced` meets its contract. Assumes nothing.
use native.Mathlib.Omega.{arith}
use Rattle.saved_salvage.proofs.Listing.{none-count, all_listed}
use Rattle.saved_salvage.proofs.listed.replaced.Goals as goal

pub added-one-requires : goal.added-one-requires
added-one-requires c = omega (arith, none-count _ (c.none.ensures))

pub added-two-requires : goal.added-two-requires
added-two-requires c = omega (arith, none-count _ (c.none.ensures), c.added-one.ensures.1)

pub added-three-requires : goal.added-three-requires
added-three-requires c = omega (arith, none-count _ (c.none.ensures), c.added-one.ensures.1, c.added-two.ensures.1)

pub added-four-requires : goal.added-four-requires
added-four-requires c =
    omega (
      arith,
      none-count _ c.none.ensures,
      c.added-one.ensures.1,
      c.added-two.ensures.1,
      c.added-three.ensures.1,
    )

pub added-five-requires : goal.added-five-requires
added-five-requires c =
    omega (
      arith,
      none-count _ c.none.ensures,
      c.added-one.ensures.1,
      c.added-two.ensures.1,
      c.added-three.ensures.1,
      c.added-four.ensures.1,
    )

pub added-requires : goal.added-requires
added-requires c =
    omega (
      arith,
      none-count _ c.none.ensures,
      c.added-one.ensures.1,
      c.added-two.ensures.1,
      c.added-three.ensures.1,
      c.added-four.ensures.1,
      c.added-five.ensures.1,
    )

pub returns : goal.returns
returns c = all_listed (c.args.kept) _ _ _ _ _ _ _
    (c.none.ensures)
    (c.added-one.ensures.0)
    (c.added-two.ensures.0) (c.added-three.ensures.0)
    (c.added-four.ensures.0) (c.added-five.ensures.0) (c.added.ensures.0)
