-- The statement of specs/inner/BiasedFields, proved.
use Prim.Native.Nat.{ℕ, ◌+◌, ◌-◌, ◌*◌, ◌%◌, ◌<◌}
use native.Mathlib.Nat as NatL
use native.Mathlib.Omega.{arith}
use mathlib.Core.Path.{◌≡◌, subst, ap, ◌∙◌}
use lib.IntN.{pos, ◌+ℤ◌}
use Rattle.word.specs.Integers.{above_zero}
use Rattle.word.proofs.Integers.{Is, is_pos, is_sum, is_tied, is-above}
use Rattle.word.proofs.Readings.{reading-biased}
use Rattle.drawing_pixel.specs.inner.BiasedFields.{biased_of, BiasedField}
use Rattle.drawing_pixel.specs.Fields.{field_of}

pub is_field : (half h : ℕ) → 0 < half → Is (field_of half h) (biased_of half h) half
is_field half h p =
    subst (λ v. Is (field_of half h) v half) (NatL.mod-add-mod h (2 * half) half)
    (reading-biased half (h % (2 * half)) (NatL.mod-lt h (omega arith)))

pub biased-field : BiasedField
biased-field half h p = is_tied (is_field half h p)

-- a size that is a field plus 1, none where that is not above 0
pub field-plus-one : (half h : ℕ) → 0 < half → above_zero (field_of half h +ℤ pos 1) ≡ biased_of half h + 1 - half
field-plus-one half h p =
    is-above (is_sum (is_field half h p) (is_pos 1)) ∙ ap (λ v. biased_of half h + 1 - v) (NatL.add-zero half)
