use Prim.Native.Nat.{◌-◌, ◌≤◌}
use lib.ListN.{replicate}
use Rattle.saved_bytes.proofs.Filling.{Pasted}
use Rattle.saved_bytes.proofs.parts.put_zeros.Given as goal

abbrev pub invariant-loop-k : goal.invariant-loop-k
invariant-loop-k l = (l.k ≤ l.count) × Pasted l.initial.output l.at (replicate l.count 0) l.k l.output

abbrev pub decreases-loop-k : goal.decreases-loop-k
decreases-loop-k l = l.count - l.k
