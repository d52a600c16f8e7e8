-- `saved_bytes::parts::put_zeros` meets its contract: those put so far stand in the buffer. Assumes nothing.
use Prim.Native.Nat.{ℕ}
use native.Mathlib.Omega.{arith}
use mathlib.Core.Path.{◌∙◌}
use lib.ListN.{length-replicate}
use Rattle.saved_bytes.proofs.Filling.{pasted-none}
use Rattle.saved_bytes.proofs.Putting.{paste_all}
use Rattle.saved_bytes.proofs.Summing.{zeros-more}
use Rattle.saved_bytes.proofs.parts.put_zeros.Goals as goal

pub loop-k-init : goal.loop-k-init
loop-k-init c = (omega arith, pasted-none _ _ _)

pub bounds-output-at : goal.bounds-output-at
bounds-output-at c = omega (arith, c.loop-k.invariant.1.size)

pub loop-k-preserved : goal.loop-k-preserved
loop-k-preserved c = let a = c.args in (
  omega arith,
  zeros-more a.output.now a.at a.count c.loop-k.k c.loop-k.output
      c.loop-k.invariant.1 (omega arith) (omega arith),
)

pub shape_of-output : goal.shape_of-output
shape_of-output c = c.loop-k.invariant.1.size

pub returns : goal.returns
returns c = c.loop-k.invariant.1.same ∙ paste_all _ _ _ c.loop-k.k (omega (arith, length-replicate {A = ℕ} c.args.count 0))
