-- The statements of specs/inner/BiasedWindow about a world's rows, proved.
use Prim.Native.Nat.{◌+◌, ◌-◌, ◌%◌}
use native.Mathlib.Nat as NatL
use native.Mathlib.Omega.{arith}
use mathlib.Core.Path.{◌≡◌, sym, ap, ◌∙◌}
use lib.Dec.{leb}
use lib.ListN.{get_or}
use lib.IntN.{pos, ◌-ℤ◌}
use lib.Signed.{le_z}
use Rattle.drawing_pixel.specs.inner.BiasedFields.{gy_biased}
use Rattle.drawing_pixel.specs.inner.BiasedWindow.{strip_rest_biased, rows_biased, WorldHeight, TopInImage, StripRest, WorldRows}
use Rattle.word.specs.Integers.{above_zero}
use Rattle.word.proofs.Integers.{is_pos, is-difference, is-le-test, is-above}
use Rattle.word.specs.Floors.{mod_z}
use Rattle.word.proofs.Floors.{is-mod}
use Rattle.drawing_pixel.specs.Fields.{GY}
use Rattle.drawing_pixel.proofs.Fields.{is_field, field-plus-one}

pub world-height : WorldHeight
world-height w = sym (field-plus-one 32768 (get_or w 8 0) (omega arith))

pub top-in-image : TopInImage
top-in-image w =
    let i = is_field 32768 (get_or w 3 0) (omega arith) in
    let low : le_z (pos 0) (GY w) ≡ leb 32768 (gy_biased w + 0) = is-le-test (is_pos 0) i in
    let high : le_z (GY w) (pos 223) ≡ leb (gy_biased w + 0) (223 + 32768) = is-le-test i (is_pos 223) in
    rw (low, high) (simp NatL.add-zero)

pub strip-rest : StripRest
strip-rest w =
    let i = is_field 32768 (get_or w 3 0) (omega arith) in
    let e : pos (gy_biased w % 8) ≡ mod_z (GY w) 8 = is-mod 8 4096 (omega arith) i in
    let f : above_zero (pos 8 -ℤ pos (gy_biased w % 8)) ≡ 8 + 0 - (0 + gy_biased w % 8) =
    is-above (is-difference (is_pos 8) (is_pos (gy_biased w % 8))) in
    let g : strip_rest_biased w ≡ 8 + 0 - (0 + gy_biased w % 8) = omega arith in
    g ∙ sym f ∙ ap (λ z. above_zero (pos 8 -ℤ z)) e

pub world-rows : WorldRows
unfolding rows_biased
world-rows w = rw (top-in-image w, strip-rest w, world-height w)
