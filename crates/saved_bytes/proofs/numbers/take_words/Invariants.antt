use Prim.Native.Nat.{◌+◌, ◌-◌, ◌*◌, ◌≤◌}
use lib.ListN.{length}
use Rattle.word.specs.LittleEndian.{word_at}
use Rattle.saved_bytes.proofs.Filling.{Filled}
use Rattle.saved_bytes.proofs.numbers.take_words.Given as goal

abbrev pub invariant-loop-k : goal.invariant-loop-k
invariant-loop-k l = (l.k ≤ length l.initial.words) × Filled (λ i. word_at l.file (l.at + 4 * i)) (length l.initial.words) l.k l.words

abbrev pub decreases-loop-k : goal.decreases-loop-k
decreases-loop-k l = length l.initial.words - l.k
