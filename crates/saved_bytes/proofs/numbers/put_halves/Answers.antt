-- `saved_bytes::numbers::put_halves` meets its contract: those put so far stand in the buffer. Assumes nothing.
use Prim.Native.Nat.{◌*◌}
use native.Mathlib.Omega.{arith}
use mathlib.Core.Path.{◌≡◌, refl, ◌∙◌}
use lib.ListN.{length}
use Rattle.saved_bytes.proofs.LittleEndian.{length-bytes}
use Rattle.saved_bytes.proofs.Putting.{paste_all}
use Rattle.saved_bytes.proofs.Filling.{pasted-none, pasted-half}
use Rattle.saved_bytes.proofs.numbers.put_halves.Goals as goal

pub loop-k-init : goal.loop-k-init
loop-k-init c = (omega arith, pasted-none _ _ _)

pub overflow_cast-halves : goal.overflow_cast-halves
overflow_cast-halves c = omega (arith, c.shared_slice_known-in-loop-k-1.given c.loop-k.k)

pub put_half-requires : goal.put_half-requires
put_half-requires c = omega (arith, c.loop-k.invariant.1.size)

pub loop-k-preserved : goal.loop-k-preserved
loop-k-preserved c = (
  omega arith,
  pasted-half _ _ _ _ _ _ _ c.loop-k.invariant.1
      (omega arith) (omega arith) c.put_half.ensures refl,
)

pub shape_of-output : goal.shape_of-output
shape_of-output c = c.loop-k.invariant.1.size

pub returns : goal.returns
returns c = let e : c.loop-k.k ≡ length c.args.halves.now = omega arith in
    c.loop-k.invariant.1.same ∙ paste_all _ _ _ (2 * c.loop-k.k) (omega (
      arith,
      length-bytes
          c.args.halves.now,
    ))
