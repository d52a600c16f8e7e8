-- A pixel painted without a branch, from the shades of a palette that stand in one number: what a value takes of them, and
-- where the bits of a flip turn a position to. Assumes nothing.
use Rattle.std.proofs.Common.{◌≡◌, ℕ, zero, suc, ◌+◌, ◌-◌, ◌*◌, ◌/◌, ◌%◌, ◌^◌, ◌<◌, ◌≤◌, Bool, true, false, eqb, refl, ap, ◌∙◌, arith}
use native.Mathlib.Nat as NatL
use lib.Bits.{bit_and, bit_xor, xor_zero_r}
use Rattle.word.specs.Choose.{pick}
use Rattle.word.specs.Bit.{is_set}
use Rattle.drawing_pixel.specs.Character.{two_bits_of, shade_of, flipped_of, pixel_value_of}
use Rattle.drawing_pixel.specs.inner.Buffer.{repainted_of}
use Rattle.drawing_pixel.proofs.Pairs.{below-eight, pair_lt}
use Rattle.drawing_pixel.proofs.RowBits.{bits-picked, picked_value}
use Rattle.drawing_pixel.proofs.Masks.{unit-times, kept-of, repainted-sum, repainted-fits}
use Rattle.drawing_background.specs.inner.Row.{inks_of}

-- a flag as the bits that its flip turns
pub bits_of : (b : ℕ) → b < 2 → 7 * b ≡ pick (eqb b 1) 7 0
bits_of zero h = refl
bits_of (suc zero) h = refl
bits_of (suc (suc b)) h = absurd (omega arith)

mirrored : (k : ℕ) → k < 8 → bit_xor k 7 ≡ 7 - k
mirrored = below-eight (λ k. bit_xor k 7 ≡ 7 - k) refl refl refl refl refl refl refl refl

-- a position turned by them
pub turned-of : (flip : Bool) (k : ℕ) → k < 8 → bit_xor k (pick flip 7 0) ≡ flipped_of flip k
unfolding flipped_of
turned-of true k l = mirrored k l
turned-of false k l = xor_zero_r k

pub bits_small : (flip : Bool) → pick flip 7 0 ≤ 7
bits_small true = omega arith
bits_small false = omega arith

-- the value at a turned position is the cell's
pub value-turned : (cell row k : ℕ) → two_bits_of row (flipped_of (is_set 13 cell) k) ≡ pixel_value_of cell row k
value-turned cell row k = picked_value cell (bits-picked row k (is_set 13 cell))

-- three shades at any row fit a word of 64 bits
pub inks-fit : (a b c : ℕ) → a < 4 → b < 4 → c < 4 → (r : ℕ) → r < 8
    → ((a * 65536 + b * 4294967296 + c * 281474976710656) * 2 ^ (2 * r)) % 18446744073709551616 ≡
    (a * 65536 + b * 4294967296 + c * 281474976710656) * 2 ^ (2 * r)
inks-fit a b c h k l =
    below-eight (λ r. ((a * 65536 + b * 4294967296 + c * 281474976710656) * 2 ^ (2 * r)) % 18446744073709551616 ≡
    (a * 65536 + b * 4294967296 + c * 281474976710656) * 2 ^ (2 * r))
    (omega arith) (omega arith) (omega arith) (omega arith) (omega arith) (omega arith) (omega arith) (omega arith)

-- .. and stand apart
apart : (a b c p : ℕ) → (a * 65536 + b * 4294967296 + c * 281474976710656) * p ≡ (a * p) * 65536 + (b * p) * 4294967296 + (c * p) * 281474976710656
apart a b c p =
    NatL.add-mul (a * 65536 + b * 4294967296) (c * 281474976710656) p
    ∙ (ap (λ n. n + c * 281474976710656 * p) (NatL.add-mul (a * 65536) (b * 4294967296) p)
    ∙ omega (arith, NatL.mul_right_comm a 65536 p, NatL.mul_right_comm b 4294967296 p, NatL.mul_right_comm c 281474976710656 p))

one_of : (a b c : ℕ) → a < 65536 → b < 65536 → c < 65536
    → ((a * 65536 + b * 4294967296 + c * 281474976710656) / 65536 % 65536 ≡ a)
    × (((a * 65536 + b * 4294967296 + c * 281474976710656) / 4294967296 % 65536 ≡ b)
    × (((a * 65536 + b * 4294967296 + c * 281474976710656) / 281474976710656 % 65536 ≡ c)
    × ((a * 65536 + b * 4294967296 + c * 281474976710656) % 65536 ≡ 0)))
one_of a b c h k l = (omega arith, (omega arith, (omega arith, omega arith)))

-- what a value takes of them
module _ (palette r : ℕ) (l : r < 8) where
  sum : inks_of palette r ≡ (two_bits_of palette 1 * 2 ^ (2 * r)) * 65536 + (two_bits_of palette 2 * 2 ^
      (2 * r)) * 4294967296 + (two_bits_of palette 3 * 2 ^ (2 * r)) * 281474976710656
  unfolding inks_of
  sum = apart (two_bits_of palette 1) (two_bits_of palette 2) (two_bits_of palette 3) (2 ^ (2 * r))

  small : (v : ℕ) → two_bits_of palette v * 2 ^ (2 * r) < 65536
  small v = unit-times (two_bits_of palette v) (pair_lt palette v) r l

  pub ink-of : (v : ℕ) → v < 4 → inks_of palette r / 2 ^ (16 * v) % 65536 ≡ pick (eqb v 0) 0 (two_bits_of palette v) * 2 ^ (2 * r)
  ink-of zero h = rw sum (omega (arith, one_of _ _ _ (small 1) (small 2) (small 3), NatL.zero-mul (2 ^ (2 * r))))
  ink-of (suc zero) h = rw sum (one_of _ _ _ (small 1) (small 2) (small 3)).0
  ink-of (suc (suc zero)) h = rw sum (one_of _ _ _ (small 1) (small 2) (small 3)).1.0
  ink-of (suc (suc (suc zero))) h = rw sum (one_of _ _ _ (small 1) (small 2) (small 3)).1.1.0
  ink-of (suc (suc (suc (suc v)))) h = absurd (omega arith)

-- the mask of a row takes both bits for every value but 0
mask-of : (v : ℕ) → v < 4 → pick (eqb v 0) 0 (two_bits_of 255 v) ≡ pick (eqb v 0) 0 3
unfolding two_bits_of
mask-of zero h = refl
mask-of (suc zero) h = refl
mask-of (suc (suc zero)) h = refl
mask-of (suc (suc (suc zero))) h = refl
mask-of (suc (suc (suc (suc v)))) h = absurd (omega arith)

-- the column that is left, and with what is added the column repainted
module _ (h r palette v mask inks m n : ℕ) (l : r < 8) (s : v < 4) (e : mask ≡ inks_of 255 r)
    (f : inks ≡ inks_of palette r) (p : m ≡ mask / 2 ^ (16 * v) % 65536) (q : n ≡ inks / 2 ^ (16 * v) % 65536) where
  pub inked-of : h - bit_and h m + n ≡ repainted_of r (shade_of palette v) h
  inked-of =
      rw (p, q, e, f, ink-of 255 r l v s, ink-of palette r l v s, mask-of v s, kept-of h r (eqb v 0) l)
      (repainted-sum h r palette v l)

  pub inked-fits : h < 65536 → h - bit_and h m + n < 65536
  inked-fits b = rw inked-of (repainted-fits h r palette v b l)
