-- `drawing_background::source::bias_index` meets its contract. Assumes nothing.
use Rattle.std.proofs.Common.{eq-eqb, ne_eqb}
use Rattle.drawing_pixel.specs.Background.{bias_index_of}
use Rattle.drawing_background.proofs.source.bias_index.Goals as goal

pub returns-then-eye-eq0 : goal.returns-then-eye-eq0
unfolding bias_index_of
returns-then-eye-eq0 c = simp (eq-eqb _ _ c.if-eye-eq0.true)

pub returns : goal.returns
unfolding bias_index_of
returns c = simp (ne_eqb _ _ c.if-eye-eq0.false)
