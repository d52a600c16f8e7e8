-- `drawing_background::source::affine_shift` meets its contract. Assumes nothing.
use Rattle.std.proofs.Common.{arith, eq-eqb, ne_eqb}
use Rattle.drawing_pixel.specs.inner.BiasedSource.{affine_shift_biased}
use Rattle.drawing_background.proofs.source.affine_shift.Goals as goal

pub returns-then-mp-lt32768 : goal.returns-then-mp-lt32768
unfolding affine_shift_biased
returns-then-mp-lt32768 c = (simp (eq-eqb _ _ c.if-eye-eq0.true), omega arith)

pub returns-then-eye-eq0 : goal.returns-then-eye-eq0
unfolding affine_shift_biased
returns-then-eye-eq0 c = (simp (eq-eqb _ _ c.if-eye-eq0.true) (omega arith), omega arith)

pub returns-then-mp-lt32768-2 : goal.returns-then-mp-lt32768-2
unfolding affine_shift_biased
returns-then-mp-lt32768-2 c = (simp (ne_eqb _ _ c.if-eye-eq0.false) (omega arith), omega arith)

pub returns : goal.returns
unfolding affine_shift_biased
returns c = (simp (ne_eqb _ _ c.if-eye-eq0.false), omega arith)
