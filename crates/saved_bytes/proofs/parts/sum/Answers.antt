-- `saved_bytes::parts::sum` meets its contract: the total so far is that of the bytes passed. Assumes nothing.
use native.Mathlib.Omega.{arith}
use mathlib.Core.Path.{refl}
use Rattle.saved_bytes.proofs.Summing.{total-more, total-all}
use Rattle.saved_bytes.proofs.parts.sum.Goals as goal

pub loop-k-init : goal.loop-k-init
loop-k-init c = (omega arith, (refl, omega arith))

pub overflow_cast-total : goal.overflow_cast-total
overflow_cast-total c = omega (arith, c.shared_slice_known-1.given c.loop-k.k)

pub overflow_add-total : goal.overflow_add-total
overflow_add-total c = omega (arith, c.shared_slice_known-1.given c.loop-k.k)

pub loop-k-preserved : goal.loop-k-preserved
loop-k-preserved c = let xs = c.args.bytes.now in (
  omega arith,
  (
    omega (arith, total-more xs c.loop-k.k (omega arith)),
    omega
        (arith, c.shared_slice_known-1.given c.loop-k.k),
  ),
)

pub returns : goal.returns
returns c = total-all c.args.bytes.now c.loop-k.k c.loop-k.total (omega arith)
    c.loop-k.invariant.1.0 (omega arith) (omega arith)
