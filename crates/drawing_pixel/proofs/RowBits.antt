-- The statement of specs/RowBits, proved.
use Prim.Native.Nat.{ℕ, ◌+◌, ◌*◌, ◌/◌, ◌%◌, ◌^◌}
use native.Mathlib.Nat as NatL
use native.Mathlib.Omega.{arith}
use native.Mathlib.Numerals.{add-one}
use mathlib.Core.Path.{◌≡◌, sym, ap, ◌∙◌}
use mathlib.Core.Bool.{Bool}
use Rattle.word.specs.Bit.{is_set}
use Rattle.drawing_pixel.specs.Character.{two_bits_of, flipped_of, pixel_value_of}
use Rattle.drawing_pixel.specs.RowBits.{Picked, BitsPicked}

-- a number's lowest two bits
two-bits : (n : ℕ) → (n % 4 % 2 ≡ n % 2) × (n % 4 / 2 ≡ n / 2 % 2)
two-bits n = (omega arith, omega arith)

-- the bits at a place, and at the next one
half-power : (h k : ℕ) → h / 2 ^ k / 2 ≡ h / 2 ^ (k + 1)
half-power h k = NatL.div-div-eq-div-mul h (2 ^ k) 2 ∙ sym (rw add-one (ap (λ m. h / m) (NatL.pow-suc 2 k)))

pub bits-picked : BitsPicked
unfolding two_bits_of
bits-picked row column flip =
    let p = flipped_of flip column in
    let n = row / 2 ^ (2 * p) in
    record {
      low = (two-bits n).0;
      high = (two-bits n).1 ∙ ap (λ m. m % 2) (half-power row (2 * p));
    }

-- no other number is: a value is known by its two bits
pub picked_same : {row column : ℕ} {flip : Bool} {v w : ℕ}
    → Picked row column flip v → Picked row column flip w → v ≡ w
picked_same {row} {column} {flip} {v} {w} s t =
    let low : v % 2 ≡ w % 2 = s.low ∙ sym t.low in
    let high : v / 2 ≡ w / 2 = s.high ∙ sym t.high in
    omega arith

-- a picked value is the definition's
pub picked_value : {row column v : ℕ} (cell : ℕ) → Picked row column (is_set 13 cell) v → v ≡ pixel_value_of cell row column
unfolding pixel_value_of
picked_value cell s = picked_same s (bits-picked _ _ _)
