-- `drawing_background::world::row_bias` meets its contract. Assumes nothing.
use Rattle.std.proofs.Common.{arith, eq-eqb, ne_eqb}
use Rattle.drawing_background.specs.inner.Row.{row_bias_of}
use Rattle.drawing_background.proofs.world.row_bias.Goals as goal

pub returns-then-w-eq1 : goal.returns-then-w-eq1
unfolding row_bias_of
returns-then-w-eq1 c = (simp (eq-eqb _ _ c.if-w-eq1.true) (rw (c.parameter.ensures.0, c.bias_index.ensures)), omega arith)

pub returns : goal.returns
unfolding row_bias_of
returns c = (simp (ne_eqb _ _ c.if-w-eq1.false), omega arith)
