use Prim.Native.Nat.{◌-◌, ◌*◌, ◌≤◌}
use lib.ListN.{length}
use Rattle.saved_bytes.specs.Numbers.{bytes_of, halves_of}
use Rattle.saved_bytes.proofs.Filling.{Pasted}
use Rattle.saved_bytes.proofs.numbers.put_words.Given as goal

abbrev pub invariant-loop-k : goal.invariant-loop-k
invariant-loop-k l = (l.k ≤ length l.words) × Pasted l.initial.output l.at (bytes_of (halves_of l.words)) (4 * l.k) l.output

abbrev pub decreases-loop-k : goal.decreases-loop-k
decreases-loop-k l = length l.words - l.k
