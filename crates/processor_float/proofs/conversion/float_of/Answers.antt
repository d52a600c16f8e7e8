-- `processor_float::conversion::float_of`: the signed reading.
use Rattle.std.proofs.Common.{◌≡◌, ◌^◌, ◌<◌, ◌≤◌, ◌-ℤ◌, pos, ap, ◌∙◌, arith, rules, le-ltb, lt-ltb}
use Rattle.std.proofs.lemmas.Int.{to_z-of_z, ints}
use Rattle.std.specs.Float.{binary32}
use Rattle.std.specs.Float.Ieee.{of_int}
use Rattle.std.specs.Int.{w32}
use Rattle.std.specs.Int.RustNames.{FitsSigned}
use Rattle.processor_float.proofs.Cast.{cast-signed}
use Rattle.processor_float.proofs.conversion.float_of.Goals as goal

pub returns : goal.returns
returns c =
    let fits : FitsSigned w32 c.cast_signed.result = search rules in
    c.nearest_i32_to_f32.ensures
    ∙ ap (of_int binary32) (to_z-of_z w32 c.cast_signed.result fits ∙ c.cast_signed.ensures ∙ cast-signed c.args.w (omega arith))
