-- `processor_arithmetic::product::words`: the words and OV, each by its callee's promise.
use Rattle.std.proofs.Common.{rules}
use Rattle.processor_arithmetic.specs.Product.{words_of, overflows_of}
use Rattle.processor_arithmetic.proofs.Casts.{bit-not}
use Rattle.processor_arithmetic.proofs.product.words.Goals as goal

pub returns : goal.returns
unfolding words_of overflows_of
returns c = rw (c.keep_carry.ensures, c.bit.ensures.0, c.extend64.ensures, bit-not)
