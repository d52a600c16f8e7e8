-- `processor_arithmetic::shift::arithmetic_right`: the signed reading, shifted.
use Rattle.std.proofs.Common.{◌≡◌, ◌^◌, ap, ◌∙◌, lt_of_le_of_lt, arith, rules}
use Rattle.std.proofs.lemmas.Int.{to_z-of_z}
use Rattle.std.specs.Int.{w32}
use Rattle.std.specs.Int.RustNames.{FitsSigned}
use Rattle.std.specs.Int.Signed.{mag_shr, nat_abs-le, shr_z}
use Rattle.processor_arithmetic.specs.Integer.{complement_of}
use Rattle.processor_arithmetic.specs.Shift.{arithmetic_right_of}
use Rattle.processor_arithmetic.proofs.Casts.{cast-signed, cast-word}
use Rattle.processor_arithmetic.proofs.shift.arithmetic_right.Goals as goal

pub returns : goal.returns
unfolding arithmetic_right_of
returns c =
    let a = c.args in
    let s = shr_z c.cast_signed.result (2 ^ a.n) in
    let f : FitsSigned w32 c.cast_signed.result = search rules in
    let g : FitsSigned w32 (shr_z c.cast_signed.result (2 ^ c.args.n)) =
    record { sfits = lt_of_le_of_lt (mag_shr c.cast_signed.result (2 ^ a.n)) c.cast_signed.type_inv } in
    (simp to_z-of_z at c.cast_unsigned.ensures)
    ∙ cast-word s (lt_of_le_of_lt (nat_abs-le s g.sfits) (omega arith))
    ∙ ap (λ z. complement_of (2 ^ 32) (shr_z z (2 ^ a.n))) (c.cast_signed.ensures ∙ cast-signed a.a (omega arith))
