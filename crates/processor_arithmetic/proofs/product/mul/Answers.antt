-- `processor_arithmetic::product::mul`: the words of the product.
use Rattle.std.proofs.Common.{rules}
use Rattle.processor_arithmetic.specs.Product.{multiply_of}
use Rattle.processor_arithmetic.proofs.product.mul.Goals as goal

pub returns : goal.returns
unfolding multiply_of
returns c = rw (← c.signed.ensures) c.words.ensures
