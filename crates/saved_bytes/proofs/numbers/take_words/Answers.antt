-- `saved_bytes::numbers::take_words` meets its contract: those taken so far stand in the array. Assumes nothing.
use native.Mathlib.Omega.{arith}
use mathlib.Core.Path.{◌≡◌}
use lib.ListN.{length}
use Rattle.saved_bytes.proofs.Filling.{filled_none, filled_more, filled-words}
use Rattle.saved_bytes.proofs.numbers.take_words.Goals as goal

pub loop-k-init : goal.loop-k-init
loop-k-init c = (omega arith, filled_none _ _)

pub word_at-requires : goal.word_at-requires
word_at-requires c = omega (arith, c.loop-k.invariant.1.whole)

pub bounds-words-k : goal.bounds-words-k
bounds-words-k c = omega (arith, c.loop-k.invariant.1.whole)

pub loop-k-smaller : goal.loop-k-smaller
loop-k-smaller c = omega (arith, c.loop-k.invariant.1.whole)

pub loop-k-preserved : goal.loop-k-preserved
loop-k-preserved c = (
  omega (arith, c.loop-k.invariant.1.whole),
  filled_more _ _ _ _ _
      c.loop-k.invariant.1 (omega (arith, c.loop-k.invariant.1.whole)) c.word_at.ensures,
)

pub shape_of-words : goal.shape_of-words
shape_of-words c = c.loop-k.invariant.1.whole

pub returns : goal.returns
returns c = let e : c.loop-k.k ≡ length c.args.words.now = omega (arith, c.loop-k.invariant.1.whole) in
    filled-words _ _ _ _ (rw e at c.loop-k.invariant.1)
