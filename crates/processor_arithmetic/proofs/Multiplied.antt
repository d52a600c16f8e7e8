-- The laws of specs/Multiplied, proved.
use Rattle.std.proofs.Common.{◌-◌, ◌*◌, ◌%◌, ◌^◌, ℤ, ap, ◌∙◌, arith}
use Rattle.processor_arithmetic.specs.Flag.{bit_of}
use Rattle.processor_arithmetic.specs.Product.{overflows_of, words_of, product_of, multiply_of, multiply_unsigned_of}
use Rattle.processor_arithmetic.specs.Integer.{signed64, outside}
use Rattle.processor_arithmetic.proofs.Places.{keep-carry-placed}
use Rattle.processor_arithmetic.proofs.Product64.{product-signed, product-word, product-overflow}
use Rattle.processor_arithmetic.proofs.Product64.{unsigned_small, unsigned-word, unsigned-overflow}
use Rattle.processor_arithmetic.proofs.Product64.{overflow-small}
use Rattle.processor_arithmetic.specs.Multiplied.{WordsPlaced, WordsWhole, MultiplyWords, MultiplySigned}
use Rattle.processor_arithmetic.specs.Multiplied.{MultiplyOverflow, MultiplyUnsigned, MultiplyUnsignedOverflow}
use Rattle.processor_arithmetic.specs.Multiplied.{MultiplyUnsignedLarge}

pub words_placed : WordsPlaced
unfolding words_of
words_placed w psw h = keep-carry-placed psw (overflows_of w) (w % 2 ^ 32) (overflow-small w h) (omega arith)

pub words-whole : WordsWhole
unfolding words_of
words-whole w psw h = record { high = omega arith; low = omega arith; both = omega arith }

pub multiply-words : MultiplyWords
unfolding multiply_of
multiply-words a b psw = words-whole (product_of a b) psw (product-word a b)

pub multiply-signed : MultiplySigned
multiply-signed a b psw ha hb = ap signed64 (multiply-words a b psw).both ∙ product-signed a b ha hb

pub multiply-overflow : MultiplyOverflow
unfolding multiply_of
multiply-overflow a b psw ha hb =
    (words_placed (product_of a b) psw (product-word a b)).at_ov
    ∙ product-overflow (product_of a b) (product-word a b)
    ∙ ap (λ (z : ℤ). bit_of (outside z)) (product-signed a b ha hb)

pub multiply-unsigned : MultiplyUnsigned
unfolding multiply_unsigned_of
multiply-unsigned a b psw ha hb = words-whole (a * b) psw (unsigned-word a b ha hb)

pub multiply-unsigned-overflow : MultiplyUnsignedOverflow
unfolding multiply_unsigned_of
multiply-unsigned-overflow a b psw ha hb =
    (words_placed (a * b) psw (unsigned-word a b ha hb)).at_ov ∙ product-overflow (a * b) (unsigned-word a b ha hb)

pub multiply-unsigned-large : MultiplyUnsignedLarge
unfolding multiply_unsigned_of
multiply-unsigned-large a b psw ha hb =
    (words_placed (a * b) psw (unsigned-word a b ha hb)).at_ov
    ∙ unsigned-overflow (a * b) (unsigned_small a b ha hb)
