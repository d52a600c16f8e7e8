-- The laws of specs/Divided, proved.
use Rattle.std.proofs.Common.{◌/◌, ◌^◌, sym, refl, ◌∙◌, mod-lt, div-add-mod', div-le_self, arith}
use lib.Signed.{quot_z}
use Rattle.word.specs.Extend.{signed_of}
use Rattle.processor_arithmetic.specs.Integer.{signed, outside, complement_of}
use Rattle.processor_arithmetic.specs.Quotient.{divide_of, divide_unsigned_of}
use Rattle.processor_arithmetic.proofs.Places.{keep-carry-placed}
use Rattle.processor_arithmetic.proofs.Bits.{bit-small}
use Rattle.processor_arithmetic.proofs.Division.{complement-word, overflows-bit, by-signs}
use Rattle.processor_arithmetic.specs.Divided.{DividePlaced, DivideOverflow, DivideAtOverflow, DivideTruncates}
use Rattle.processor_arithmetic.specs.Divided.{DivideUnsigned, DivideUnsignedPlaced, DivideUnsignedOverflow}

pub divide-placed : DividePlaced
unfolding divide_of
divide-placed a b psw =
    let q = quot_z (signed a) (signed b) in
    keep-carry-placed psw _ (complement_of (2 ^ 32) q) (bit-small (outside q)) (complement-word q)

pub divide-overflow : DivideOverflow
divide-overflow a b psw ha hb n = (divide-placed a b psw).at_ov ∙ (by-signs a b ha hb n).overflow ∙ overflows-bit a b

pub divide-at-overflow : DivideAtOverflow
unfolding divide_of signed_of
divide-at-overflow psw = (refl, refl)

pub divide-truncates : DivideTruncates
unfolding divide_of
divide-truncates a b psw ha hb n e =
    let s = by-signs a b ha hb n in
    rw (s.quotient, s.remainder) (s.truncates (sym s.overflow ∙ sym (divide-placed a b psw).at_ov ∙ e))

pub divide-unsigned : DivideUnsigned
unfolding divide_unsigned_of
divide-unsigned a b psw n = (sym (div-add-mod' a b), mod-lt a (omega arith))

pub divide-unsigned-placed : DivideUnsignedPlaced
unfolding divide_unsigned_of
divide-unsigned-placed a b psw ha =
    keep-carry-placed psw 0 (a / b) (omega arith) (omega (arith, div-le_self a b))

pub divide-unsigned-overflow : DivideUnsignedOverflow
divide-unsigned-overflow a b psw ha = (divide-unsigned-placed a b psw ha).at_ov
