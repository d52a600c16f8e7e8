-- `processor_arithmetic::product::extend64`: the signed reading, at 64 bits.
use Rattle.std.proofs.Common.{◌≡◌, ap, ◌∙◌, arith, rules}
use Rattle.std.proofs.lemmas.Int.{to_z-of_z}
use Rattle.std.specs.Int.{w32, w64, cast_unsigned}
use Rattle.std.specs.Int.RustNames.{FitsSigned}
use Rattle.processor_arithmetic.proofs.Casts.{cast-signed, cast-extended}
use Rattle.processor_arithmetic.proofs.product.extend64.Goals as goal

pub returns : goal.returns
returns c =
    let x = c.args.x in
    let narrow : FitsSigned w32 c.cast_signed.result = search rules in
    let wide : FitsSigned w64 c.from.result = search rules in
    c.cast_unsigned.ensures
    ∙ ap (cast_unsigned w64) (to_z-of_z w64 c.from.result wide ∙ c.from.ensures
    ∙ to_z-of_z w32 c.cast_signed.result narrow ∙ c.cast_signed.ensures ∙ cast-signed x (omega arith))
    ∙ cast-extended x (omega arith)
