-- Bounds of magnitudes and of their products.
use Rattle.std.proofs.Common.{◌≡◌, ℕ, zero, ◌+◌, ◌-◌, ◌*◌, ◌^◌, ◌<◌, ◌≤◌, ltb, refl, lt_of_le_of_lt, le_of_lt, mul-le-mul_left, mul-lt-mul_of_pos_right, arith, pow_pos, pow-add, le-ltb, lt-ltb}
use mathlib.Core.Path.{subst⁻¹}
use native.Mathlib.Decide.{dec_lt}
use Rattle.processor_arithmetic.specs.Sign.{magnitude_of}

-- the product of two numbers of k bits has at most k + k
pub product-below : (k : ℕ) {a b : ℕ} → a < 2 ^ k → b < 2 ^ k → a * b < 2 ^ (k + k)
product-below k {a} {b} ha hb =
    subst⁻¹ (λ (n : ℕ). a * b < n) (pow-add 2 k k)
    (lt_of_le_of_lt (mul-le-mul_left a (le_of_lt hb)) (mul-lt-mul_of_pos_right ha (pow_pos k)))

-- only 0 has the magnitude 0
pub magnitude-positive : (a : ℕ) → 0 < a → a < 2 ^ 32 → 0 < magnitude_of a
unfolding magnitude_of
magnitude-positive a h k =
    elim (dec_lt a (2 ^ 31)) [
      | yes l ↦ simp (lt-ltb a (2 ^ 31) l) h
      | no l ↦
          let g : 2 ^ 31 ≤ a = omega arith in
          simp (le-ltb a (2 ^ 31) g) (omega arith)
    ]
