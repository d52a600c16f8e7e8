-- `saved_bytes::parts::same` meets its contract: what is left to compare decides. Assumes nothing.
use native.Mathlib.Omega.{arith}
use mathlib.Core.Path.{◌≡◌, refl}
use lib.ListN.{length}
use Rattle.saved_bytes.proofs.Comparing.{left-more, left-differs, left-none}
use Rattle.saved_bytes.proofs.parts.same.Goals as goal

pub loop-k-init : goal.loop-k-init
loop-k-init c = (omega arith, refl)

pub returns-then-a-k : goal.returns-then-a-k
returns-then-a-k c = let p = c.args in
    left-differs p.a.now p.b.now c.loop-k.k (omega arith) (omega arith)
    c.loop-k.invariant.1 c.if-a-k.true

pub loop-k-preserved : goal.loop-k-preserved
loop-k-preserved c = let p = c.args in (
  omega arith,
  left-more p.a.now p.b.now c.loop-k.k (omega arith)
      (omega arith) c.loop-k.invariant.1 c.if-a-k.false,
)

pub returns : goal.returns
returns c = let e : c.loop-k.k ≡ length c.args.a.now = omega arith in
    left-none c.args.a.now c.args.b.now c.requires (rw e at c.loop-k.invariant.1)
