-- `processor_arithmetic::quotient::div`: the division of the signed readings.
use Rattle.std.proofs.Common.{◌≡◌, ◌^◌, ◌<◌, nat_abs, ap, ap₂, sym, ◌∙◌, arith, rules}
use Rattle.std.proofs.lemmas.Int.{to_z-of_z, of_z-to_z}
use Rattle.std.specs.Int.{w32, cast_signed, cast_unsigned}
use Rattle.std.specs.Int.RustNames.{FitsSigned}
use Rattle.std.specs.Int.Signed.{nat_abs-le, quot_z, rem_z}
use Rattle.processor_arithmetic.specs.Flag.{bit_of}
use Rattle.processor_arithmetic.specs.Integer.{signed, outside, complement_of}
use Rattle.processor_arithmetic.specs.Quotient.{divide_of}
use Rattle.processor_arithmetic.proofs.Casts.{cast-signed, cast-word, cast-back, quotient-size, unless-least}
use Rattle.processor_arithmetic.proofs.Division.{by-signs, overflows-bit}
use Rattle.processor_arithmetic.proofs.quotient.div.Goals as goal

pub returns : goal.returns
unfolding divide_of
returns c =
    let a = c.args in
    let x = c.cast_signed-dividend.result in
    let y = c.cast_signed-divisor.result in
    let q = c.overflowing_div-quotient.result.0 in
    let r = c.wrapping_rem.result in
    let fx : FitsSigned w32 c.cast_signed-dividend.result = search rules in
    let fy : FitsSigned w32 c.cast_signed-divisor.result = search rules in
    let fq : FitsSigned w32 c.overflowing_div-quotient.result.0 = search rules in
    let fr : FitsSigned w32 c.wrapping_rem.result = search rules in
    let sx : c.cast_signed-dividend.result ≡ signed a.a = c.cast_signed-dividend.ensures ∙ cast-signed a.a (omega arith) in
    let sy : c.cast_signed-divisor.result ≡ signed a.b = c.cast_signed-divisor.ensures ∙ cast-signed a.b (omega arith) in
    let small : nat_abs (quot_z c.cast_signed-dividend.result c.cast_signed-divisor.result) < 2 ^ 32 =
    omega (arith, quotient-size x y, nat_abs-le x fx.sfits) in
    let quotient : c.cast_unsigned-reg2.result ≡ complement_of (2 ^ 32) (quot_z (signed a.a) (signed a.b)) =
    c.cast_unsigned-reg2.ensures
    ∙ ap (cast_unsigned w32) (to_z-of_z w32 q fq ∙ (simp to_z-of_z at c.overflowing_div-quotient.ensures.value))
    ∙ cast-back (quot_z x y) small
    ∙ ap₂ (λ m n. complement_of (2 ^ 32) (quot_z m n)) sx sy in
    let remainder : c.cast_unsigned.result ≡ complement_of (2 ^ 32) (rem_z (signed a.a) (signed a.b)) =
    c.cast_unsigned.ensures
    ∙ ap (cast_unsigned w32) (to_z-of_z w32 r fr)
    ∙ cast-word r (omega (arith, nat_abs-le r fr.sfits))
    ∙ ap (complement_of (2 ^ 32)) ((simp to_z-of_z at c.wrapping_rem.ensures) ∙ ap₂ rem_z sx sy) in
    let wx : cast_unsigned w32 (cast_signed w32 a.a) ≡ a.a = of_z-to_z w32 a.a (omega arith) in
    let wy : cast_unsigned w32 (cast_signed w32 a.b) ≡ a.b = of_z-to_z w32 a.b (omega arith) in
    let overflow : bit_of c.overflowing_div-quotient.result.1 ≡ bit_of (outside (quot_z (signed a.a) (signed a.b))) =
    ap bit_of (unless-least _ a.a a.b
    (rw (c.cast_signed-dividend.ensures, wx, c.cast_signed-divisor.ensures, wy)
    at (simp to_z-of_z at c.overflowing_div-quotient.ensures.overflow)))
    ∙ sym (overflows-bit a.a a.b)
    ∙ sym (by-signs a.a a.b (omega arith) (omega arith) (λ e. omega arith)).overflow in
    rw (c.keep_carry.ensures, c.bit.ensures.0, quotient, remainder, overflow)
