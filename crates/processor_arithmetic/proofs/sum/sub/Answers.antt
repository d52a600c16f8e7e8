-- `processor_arithmetic::sum::sub`: CY and OV as the library tells them.
use Rattle.std.proofs.Common.{◌≡◌, ◌+◌, ◌-◌, ◌%◌, ◌^◌, ◌-ℤ◌, ltb, leb, ◌∙◌, arith, rules}
use Rattle.std.proofs.lemmas.Int.{to_z-of_z}
use Rattle.std.specs.Int.{w32}
use Rattle.std.specs.Int.RustNames.{FitsSigned}
use Rattle.processor_arithmetic.specs.Integer.{signed, outside}
use Rattle.processor_arithmetic.specs.Sum.{difference_of}
use Rattle.processor_arithmetic.proofs.Casts.{cast-signed, unless-most, unless-fits}
use Rattle.processor_arithmetic.proofs.sum.sub.Goals as goal

pub returns : goal.returns
unfolding difference_of
returns c =
    let a = c.args in
    let fx : FitsSigned w32 c.cast_signed.result = search rules in
    let fy : FitsSigned w32 c.cast_signed-2.result = search rules in
    let sx : c.cast_signed.result ≡ signed a.a = c.cast_signed.ensures ∙ cast-signed a.a (omega arith) in
    let sy : c.cast_signed-2.result ≡ signed a.b = c.cast_signed-2.ensures ∙ cast-signed a.b (omega arith) in
    let value : c.overflowing_sub-value.result.0 ≡ (a.a + (2 ^ 32 - a.b)) % 2 ^ 32 = omega (arith, c.overflowing_sub-value.ensures.value) in
    let cy : c.overflowing_sub-value.result.1 ≡ ltb a.a a.b = unless-most _ a.b a.a c.overflowing_sub-value.ensures.overflow in
    let ov : c.overflowing_sub-ov.result.1 ≡ outside (signed a.a -ℤ signed a.b) =
    unless-fits _ (signed a.a -ℤ signed a.b) (rw (sx, sy) at (simp to_z-of_z at c.overflowing_sub-ov.ensures.overflow)) in
    rw (c.flags.ensures, c.bit.ensures.0, c.bit-2.ensures.0, value, cy, ov)
