-- `drawing_objects::group_count` meets its contract. Assumes nothing.
use native.Mathlib.Omega.{arith}
use Prim.Native.Nat.{◌-◌}
use Rattle.bus.specs.Registers.{spt_of}
use Rattle.drawing_objects.proofs.Groups.{count-above, count-zero}
use Rattle.drawing_objects.proofs.group_count.Goals as goal

pub returns-then-n-eq0 : goal.returns-then-n-eq0
unfolding spt_of
returns-then-n-eq0 c = (rw c.wide.ensures.0 (count-zero _ _ c.if-n-eq0.true), omega (arith, c.requires.1 0 (omega arith)))

pub overflow_sub-result : goal.overflow_sub-result
unfolding spt_of
overflow_sub-result c = omega (arith, c.requires.1 (c.args.n - 1) (omega arith))

pub returns : goal.returns
returns c = (rw (c.wide-3.ensures.0, c.wide-2.ensures.0) (count-above _ _ c.if-n-eq0.false), omega arith)
