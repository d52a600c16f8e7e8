-- `drawing_pixel::field::flag` meets its contract: each eye's branch is its case. Assumes nothing.
use borrow.Author.Tests.{eq-eqb, ne_eqb}
use Rattle.drawing_pixel.specs.Flags.{eye_flag_of}
use Rattle.drawing_pixel.proofs.field.flag.Goals as goal

pub returns-then-eye-eq0 : goal.returns-then-eye-eq0
unfolding eye_flag_of
returns-then-eye-eq0 c = simp (eq-eqb _ _ c.if-eye-eq0.true)

pub returns : goal.returns
unfolding eye_flag_of
returns c = simp (ne_eqb _ _ c.if-eye-eq0.false)
