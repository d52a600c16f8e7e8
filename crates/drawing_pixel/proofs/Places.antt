-- Where a column's two bits stand in its row: at the column's position, or the mirrored one where flipped. The unit of
-- the place is chosen between the two by a mask of all bits or none, without a branch. Assumes nothing.
use Prim.Native.Nat.{ℕ, ◌-◌, ◌*◌, ◌/◌, ◌%◌, ◌^◌, ◌<◌}
use native.Mathlib.Omega.{arith}
use mathlib.Core.Bool.{Bool, true, false}
use mathlib.Core.Path.{◌≡◌, refl, sym, ap, ◌∙◌}
use lib.Bits.{bit_and, bit_xor}
use Rattle.word.specs.Choose.{pick}
use Rattle.word.specs.Bit.{is_set}
use Rattle.drawing_pixel.specs.Character.{two_bits_of, flipped_of, pixel_value_of}
use Rattle.drawing_pixel.specs.inner.Places.{PlaceUnit}
use Rattle.drawing_pixel.proofs.RowBits.{bits-picked, picked_value}
use Rattle.drawing_pixel.proofs.Pairs.{below-eight}

-- the unit of a position by its mask
abbrev unit_by : ℕ → ℕ → ℕ
unit_by k m =
    bit_xor ((1 * 2 ^ (2 * k)) % 65536)
    (bit_and (bit_xor ((1 * 2 ^ (2 * k)) % 65536) ((1 * 2 ^ (2 * (7 - k))) % 65536)) m)

unit-plain : (k : ℕ) → k < 8 → unit_by k 0 ≡ 2 ^ (2 * k)
unit-plain = below-eight (λ k. unit_by k 0 ≡ 2 ^ (2 * k)) refl refl refl refl refl refl refl refl

unit-mirrored : (k : ℕ) → k < 8 → unit_by k 65535 ≡ 2 ^ (2 * (7 - k))
unit-mirrored = below-eight (λ k. unit_by k 65535 ≡ 2 ^ (2 * (7 - k))) refl refl refl refl refl refl refl refl

unit-flipped : (flip : Bool) (k : ℕ) → k < 8 → unit_by k (pick flip 65535 0) ≡ 2 ^ (2 * flipped_of flip k)
unfolding flipped_of
unit-flipped true k l = unit-mirrored k l
unit-flipped false k l = unit-plain k l

pub unit-of : (k m : ℕ) → k < 8 → (flip : Bool) → m ≡ pick flip 65535 0 → unit_by k m ≡ 2 ^ (2 * flipped_of flip k)
unit-of k m l flip e = ap (unit_by k) e ∙ unit-flipped flip k l

pub flipped-small : (flip : Bool) (k : ℕ) → k < 8 → flipped_of flip k < 8
unfolding flipped_of
flipped-small true k l = omega arith
flipped-small false k l = l

-- the low sixteen bits have the eight places
pub low-pair : (row k : ℕ) → k < 8 → two_bits_of (row % 65536) k ≡ two_bits_of row k
unfolding two_bits_of
low-pair row =
    below-eight (λ k. row % 65536 / 2 ^ (2 * k) % 4 ≡ row / 2 ^ (2 * k) % 4)
    (omega arith) (omega arith) (omega arith) (omega arith) (omega arith) (omega arith) (omega arith) (omega arith)

-- the value of a column of a row, at its place in the row's low sixteen bits
pub value-placed : (cell row k : ℕ) → k < 8 → pixel_value_of cell row k ≡ two_bits_of (row % 65536) (flipped_of (is_set 13 cell) k)
value-placed cell row k l =
    let flip = is_set 13 cell in
    sym (picked_value cell (bits-picked row k flip))
    ∙ sym (low-pair row (flipped_of flip k) (flipped-small flip k l))

-- .. and the place of its unit, by the mask of the cell
pub unit-placed : (cell k : ℕ) {u m : ℕ} → k < 8 → m ≡ pick (is_set 13 cell) 65535 0
    → ((flip : Bool) → m ≡ pick flip 65535 0 → u ≡ 2 ^ (2 * flipped_of flip k))
    → PlaceUnit u
unit-placed cell k l e f =
    let flip = is_set 13 cell in
    record { place = flipped_of flip k; in_row = flipped-small flip k l; is = f flip e }
