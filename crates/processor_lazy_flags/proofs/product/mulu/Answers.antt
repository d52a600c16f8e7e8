-- `processor_lazy_flags::product::mulu`: the words of the product.
use Rattle.std.proofs.Common.{rules}
use Rattle.processor_arithmetic.specs.Product.{multiply_unsigned_of}
use Rattle.processor_lazy_flags.proofs.product.mulu.Goals as goal

pub returns : goal.returns
unfolding multiply_unsigned_of
returns c = λ psw. rw (← c.from.ensures, ← c.from-2.ensures) (c.words.ensures psw)
