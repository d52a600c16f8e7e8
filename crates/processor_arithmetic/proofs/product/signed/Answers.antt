-- `processor_arithmetic::product::signed`: the product of two signed words fits 64 bits.
use Rattle.std.proofs.Common.{◌≡◌, ◌^◌, ◌*ℤ◌, ap, ap₂, ◌∙◌, arith, rules}
use Rattle.std.proofs.lemmas.Int.{to_z-of_z, fits_signed_mul}
use Rattle.std.specs.Int.{w32, w64}
use Rattle.std.specs.Int.RustNames.{FitsSigned}
use Rattle.std.specs.Int.Signed.{nat_abs-le}
use Rattle.processor_arithmetic.specs.Integer.{complement_of}
use Rattle.processor_arithmetic.specs.Product.{product_of}
use Rattle.processor_arithmetic.proofs.Casts.{cast-signed, cast-word64}
use Rattle.processor_arithmetic.proofs.product.signed.Goals as goal

pub returns : goal.returns
unfolding product_of
returns c =
    let a = c.args in
    let f : FitsSigned w32 c.cast_signed.result = search rules in
    let g : FitsSigned w32 c.cast_signed-2.result = search rules in
    let x : c.from.result ≡ c.cast_signed.result = c.from.ensures ∙ to_z-of_z w32 c.cast_signed.result f in
    let y : c.from-2.result ≡ c.cast_signed-2.result = c.from-2.ensures ∙ to_z-of_z w32 c.cast_signed-2.result g in
    let fx : FitsSigned w64 c.from.result = search rules in
    let fy : FitsSigned w64 c.from-2.result = search rules in
    let fits : FitsSigned w64 (c.from.result *ℤ c.from-2.result) =
    fits_signed_mul w64 c.from.result c.from-2.result (2 ^ 31) (2 ^ 31) (rw x (nat_abs-le c.cast_signed.result c.cast_signed.type_inv))
    (rw y (nat_abs-le c.cast_signed-2.result c.cast_signed-2.type_inv)) (omega arith) in
    (simp to_z-of_z at c.cast_unsigned.ensures)
    ∙ cast-word64 (c.from.result *ℤ c.from-2.result) fits
    ∙ ap (complement_of (2 ^ 64)) (ap₂ ◌*ℤ◌ (x ∙ c.cast_signed.ensures ∙ cast-signed a.a (omega arith))
    (y ∙ c.cast_signed-2.ensures ∙ cast-signed a.b (omega arith)))
