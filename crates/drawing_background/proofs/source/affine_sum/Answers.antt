-- `drawing_background::source::affine_sum` meets its contract: the product of two halfwords fits. Assumes nothing.
use Rattle.std.proofs.Common.{refl, arith}
use Rattle.drawing_background.specs.inner.Row.{affine_sum_of}
use Rattle.drawing_background.proofs.Powers.{product_lt}
use Rattle.drawing_background.proofs.source.affine_sum.Goals as goal

pub overflow_mul-result-2 : goal.overflow_mul-result-2
overflow_mul-result-2 c = omega (arith, product_lt c.args.d c.args.n c.requires.1.0 c.requires.1.1)

pub overflow_add-result : goal.overflow_add-result
overflow_add-result c = omega (arith, product_lt c.args.d c.args.n c.requires.1.0 c.requires.1.1)

pub overflow_add-result-2 : goal.overflow_add-result-2
overflow_add-result-2 c = omega (arith, product_lt c.args.d c.args.n c.requires.1.0 c.requires.1.1)

pub returns : goal.returns
unfolding affine_sum_of
returns c = refl
