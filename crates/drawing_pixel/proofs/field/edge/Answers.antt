-- `drawing_pixel::field::edge` meets its contract: each eye's branch is its case. Assumes nothing.
use borrow.Author.Tests.{eq-eqb, ne_eqb}
use Rattle.drawing_pixel.specs.inner.BiasedFields.{edge_biased}
use native.Mathlib.Omega.{arith}
use Rattle.drawing_pixel.proofs.field.edge.Goals as goal

pub returns-then-eye-eq0 : goal.returns-then-eye-eq0
unfolding edge_biased
returns-then-eye-eq0 c = (simp (eq-eqb _ _ c.if-eye-eq0.true), omega arith)

pub returns : goal.returns
unfolding edge_biased
returns c = (simp (ne_eqb _ _ c.if-eye-eq0.false), omega arith)
