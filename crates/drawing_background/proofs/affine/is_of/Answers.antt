-- `drawing_background::affine::is_of` meets its contract. Assumes nothing.
use Rattle.std.proofs.Common.{eqb-true}
use mathlib.Core.Bool.{false≢true}
use Rattle.drawing_background.proofs.affine.is_of.Goals as goal

pub returns-then-c-u : goal.returns-then-c-u
returns-then-c-u c = λ e. absurd (false≢true e)

pub returns : goal.returns
returns c = λ e. (c.if-c-u.false, eqb-true _ _ e)
