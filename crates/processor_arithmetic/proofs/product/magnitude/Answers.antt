-- `processor_arithmetic::product::magnitude`: the absolute value of the signed reading.
use Rattle.std.proofs.Common.{nat_abs, ap, ◌∙◌, arith, rules}
use Rattle.std.proofs.lemmas.Int.{to_z-of_z}
use Rattle.std.specs.Int.{w32}
use Rattle.std.specs.Int.RustNames.{FitsSigned}
use Rattle.processor_arithmetic.proofs.Casts.{cast-signed}
use Rattle.processor_arithmetic.proofs.Reading.{magnitude-absolute}
use Rattle.processor_arithmetic.proofs.product.magnitude.Goals as goal

pub returns : goal.returns
returns c =
    let a = c.args.a in
    let fits : FitsSigned w32 c.cast_signed.result = search rules in (
      c.unsigned_abs.ensures.value
          ∙ ap nat_abs (to_z-of_z w32 c.cast_signed.result fits ∙ c.cast_signed.ensures ∙ cast-signed a (omega arith))
          ∙ magnitude-absolute a (omega arith),
      c.unsigned_abs.ensures.bound,
    )
