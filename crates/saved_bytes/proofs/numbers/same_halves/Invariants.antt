use Prim.Native.Nat.{◌-◌, ◌≤◌}
use lib.ListN.{length}
use Rattle.saved_bytes.specs.Numbers.{halves_from}
use Rattle.saved_bytes.proofs.Comparing.{Left}
use Rattle.saved_bytes.proofs.numbers.same_halves.Given as goal

abbrev pub invariant-loop-k : goal.invariant-loop-k
invariant-loop-k l = (l.k ≤ length l.halves) × Left (halves_from l.file 0 (length l.halves)) l.halves l.k

abbrev pub decreases-loop-k : goal.decreases-loop-k
decreases-loop-k l = length l.halves - l.k
