-- `drawing_pixel::world::columns` meets its contract: a width that is not above 0 has no columns. Assumes nothing.
use borrow.Author.Tests.{eq-eqb, ne_eqb}
use native.Mathlib.Omega.{arith}
use Rattle.drawing_pixel.specs.inner.BiasedWindow.{columns_biased}
use Rattle.drawing_pixel.proofs.world.columns.Goals as goal

pub returns-then-w-eq2 : goal.returns-then-w-eq2
unfolding columns_biased
returns-then-w-eq2 c = (simp (eq-eqb _ _ c.if-w-eq2.true) (omega arith), omega arith)

pub returns-then-biased-lt4096 : goal.returns-then-biased-lt4096
unfolding columns_biased
returns-then-biased-lt4096 c = (simp (ne_eqb _ _ c.if-w-eq2.false) (omega arith), omega arith)

pub returns : goal.returns
unfolding columns_biased
returns c = (simp (ne_eqb _ _ c.if-w-eq2.false) (omega arith), omega arith)
