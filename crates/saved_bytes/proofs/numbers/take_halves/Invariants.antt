use Prim.Native.Nat.{◌+◌, ◌-◌, ◌*◌, ◌≤◌}
use lib.ListN.{length}
use Rattle.word.specs.LittleEndian.{half_at}
use Rattle.saved_bytes.proofs.Filling.{Filled}
use Rattle.saved_bytes.proofs.numbers.take_halves.Given as goal

abbrev pub invariant-loop-k : goal.invariant-loop-k
invariant-loop-k l = (l.k ≤ length l.initial.halves) × Filled (λ i. half_at l.file (l.at + 2 * i)) (length l.initial.halves) l.k l.halves

abbrev pub decreases-loop-k : goal.decreases-loop-k
decreases-loop-k l = length l.initial.halves - l.k
