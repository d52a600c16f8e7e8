use Prim.Native.Nat.{◌-◌, ◌≤◌}
use Rattle.drawing_strip.specs.inner.Stored.{Stored}
use Rattle.drawing_strip.proofs.store_columns.Given as goal

abbrev pub invariant-loop-x : goal.invariant-loop-x
invariant-loop-x l = (l.x ≤ 384) × Stored 0 l.strip l.x l.columns l.initial.image l.image

abbrev pub decreases-loop-x : goal.decreases-loop-x
decreases-loop-x l = 384 - l.x
