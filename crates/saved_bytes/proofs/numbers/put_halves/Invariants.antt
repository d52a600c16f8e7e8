use Prim.Native.Nat.{◌-◌, ◌*◌, ◌≤◌}
use lib.ListN.{length}
use Rattle.saved_bytes.specs.Numbers.{bytes_of}
use Rattle.saved_bytes.proofs.Filling.{Pasted}
use Rattle.saved_bytes.proofs.numbers.put_halves.Given as goal

abbrev pub invariant-loop-k : goal.invariant-loop-k
invariant-loop-k l = (l.k ≤ length l.halves) × Pasted l.initial.output l.at (bytes_of l.halves) (2 * l.k) l.output

abbrev pub decreases-loop-k : goal.decreases-loop-k
decreases-loop-k l = length l.halves - l.k
