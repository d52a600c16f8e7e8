-- `drawing_background::source::plain_left` meets its contract. Assumes nothing.
use Rattle.std.proofs.Common.{arith, eq-eqb, ne_eqb}
use Rattle.drawing_pixel.specs.inner.BiasedSource.{plain_left_biased}
use Rattle.drawing_background.proofs.source.plain_left.Goals as goal

pub returns-then-eye-eq0 : goal.returns-then-eye-eq0
unfolding plain_left_biased
returns-then-eye-eq0 c = (simp (eq-eqb _ _ c.if-eye-eq0.true) (omega arith), omega arith)

pub returns : goal.returns
unfolding plain_left_biased
returns c = (simp (ne_eqb _ _ c.if-eye-eq0.false) (omega arith), omega arith)
