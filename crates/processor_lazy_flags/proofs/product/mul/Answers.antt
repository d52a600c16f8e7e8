-- `processor_lazy_flags::product::mul`: the words of the signed product.
use Rattle.processor_arithmetic.specs.Product.{multiply_of}
use Rattle.std.proofs.Common.{rules}
use Rattle.processor_lazy_flags.proofs.product.mul.Goals as goal

pub returns : goal.returns
unfolding multiply_of
returns c = λ psw. rw (← c.signed.ensures) (c.words.ensures psw)
