-- `saved_bytes::numbers::take_halves` meets its contract: those taken so far stand in the array. Assumes nothing.
use native.Mathlib.Omega.{arith}
use mathlib.Core.Path.{◌≡◌}
use lib.ListN.{length}
use Rattle.saved_bytes.proofs.Filling.{filled_none, filled_more, filled-halves}
use Rattle.saved_bytes.proofs.numbers.take_halves.Goals as goal

pub loop-k-init : goal.loop-k-init
loop-k-init c = (omega arith, filled_none _ _)

pub half_at-requires : goal.half_at-requires
half_at-requires c = omega (arith, c.loop-k.invariant.1.whole)

pub bounds-halves-k : goal.bounds-halves-k
bounds-halves-k c = omega (arith, c.loop-k.invariant.1.whole)

pub loop-k-smaller : goal.loop-k-smaller
loop-k-smaller c = omega (arith, c.loop-k.invariant.1.whole)

pub loop-k-preserved : goal.loop-k-preserved
loop-k-preserved c = (
  omega (arith, c.loop-k.invariant.1.whole),
  filled_more _ _ _ _ _
      c.loop-k.invariant.1 (omega (arith, c.loop-k.invariant.1.whole)) c.half_at.ensures.0,
)

pub shape_of-halves : goal.shape_of-halves
shape_of-halves c = c.loop-k.invariant.1.whole

pub returns : goal.returns
returns c = let e : c.loop-k.k ≡ length c.args.halves.now = omega (arith, c.loop-k.invariant.1.whole) in
    filled-halves _ _ _ _ (rw e at c.loop-k.invariant.1)
