-- `bus::refusals::drawing_ok` meets its contract: all registers are within their widths exactly if those from k on are.
-- Assumes nothing.
use Prim.Native.Nat.{ℕ, suc, ◌+◌, ◌-◌, ◌<◌, ◌^◌}
use mathlib.Core.List.{List}
use mathlib.Core.Path.{◌≡◌, refl, ◌∙◌}
use native.Mathlib.Omega.{arith}
use borrow.Author.Tests.{lt-ltb}
use lib.ListN.{get_or}
use Rattle.bus.specs.Registers.{width_of, within_from, drawing_ok}
use Rattle.bus.proofs.Limits.{limit}
use Rattle.bus.proofs.refusals.drawing_ok.Goals as goal

within-next : (d : List ℕ) (k : ℕ) → k < 13 → get_or d k 0 < 2 ^ width_of k → within_from d k (13 - k) ≡ within_from d (k + 1) (13 - (k + 1))
within-next d k h small =
    let e : 13 - k ≡ suc (13 - (k + 1)) = omega arith in
    rw e (simp (lt-ltb _ _ small))

pub loop-k-init : goal.loop-k-init
unfolding drawing_ok
loop-k-init c = refl

pub loop-k-preserved : goal.loop-k-preserved
loop-k-preserved c =
    let l = c.loop-k in
    l.invariant ∙ within-next _ l.k c.loop-k-test.true (rw (limit l.k c.loop-k-test.true) at c.if-k-x.false)
