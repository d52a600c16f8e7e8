-- What the code of CVT.SW finds at a size with a fraction: the significand m is cut at d binary places, 1 to 24 of them,
-- and twice what was cut off is compared with 2 ^ d. Assumes nothing.
use Rattle.std.proofs.Common.{◌≡◌, ℕ, zero, suc, ◌+◌, ◌-◌, ◌*◌, ◌/◌, ◌%◌, ◌^◌, ◌<◌, ◌≤◌, ℤ, pos, negsuc, neg_ℤ, sym, refl, ap, ◌∙◌, subst, mod-eq_of_lt, one-mul, div-mul-le_self, add-one, arith, shl_exact}
use lib.Pow.{split, pow-lt, shr_le}
use lib.Ieee.Nearest.{closest}
use Rattle.processor_float.specs.Operand.{exponent_of, digits_of}
use Rattle.processor_float.specs.Conversion.{nearest_size_of, truncated_size_of}
use Rattle.processor_float.proofs.Closest.{closest-less, closest-tie, closest-more}
use Rattle.processor_float.proofs.Sizing.{nearest-part, nearest-whole, truncated-whole, fields}

module _ (m d : ℕ) (h : m < 2 ^ 24) where
  cut : m / 2 ^ d * 2 ^ d % 2 ^ 32 ≡ m / 2 ^ d * 2 ^ d
  cut = mod-eq_of_lt (omega (arith, div-mul-le_self m (2 ^ d)))

  pub cut-less : m / 2 ^ d * 2 ^ d % 2 ^ 32 ≤ m
  cut-less = omega (arith, cut, div-mul-le_self m (2 ^ d))

  twice : 2 * (m - m / 2 ^ d * 2 ^ d % 2 ^ 32) ≡ m % 2 ^ d * 2
  twice = omega (arith, cut, split m d)

  one : d < 32 → 1 * 2 ^ d % 2 ^ 32 ≡ 2 ^ d
  one l = ap (λ (x : ℕ). x % 2 ^ 32) (one-mul (2 ^ d)) ∙ mod-eq_of_lt (pow-lt l)

  pub rounds-down : d < 32 → 2 * (m - m / 2 ^ d * 2 ^ d % 2 ^ 32) < 1 * 2 ^ d % 2 ^ 32 → m / 2 ^ d ≡ closest m (2 ^ d)
  rounds-down l t = sym (closest-less m (2 ^ d) (omega (arith, twice, one l)))

  pub rounds-even : d < 32 → 2 * (m - m / 2 ^ d * 2 ^ d % 2 ^ 32) ≡ 1 * 2 ^ d % 2 ^ 32
      → m / 2 ^ d + m / 2 ^ d % 2 ≡ closest m (2 ^ d)
  rounds-even l t = sym (closest-tie m (2 ^ d) (omega (arith, twice, one l)))

  pub rounds-up : d < 32 → 1 * 2 ^ d % 2 ^ 32 ≤ 2 * (m - m / 2 ^ d * 2 ^ d % 2 ^ 32)
      → (2 * (m - m / 2 ^ d * 2 ^ d % 2 ^ 32) ≡ 1 * 2 ^ d % 2 ^ 32 → ⊥)
      → m / 2 ^ d + 1 ≡ closest m (2 ^ d)
  rounds-up l t n =
      let more : 2 ^ d < m % 2 ^ d * 2 = omega (arith, twice, one l, n) in
      add-one (m / 2 ^ d) ∙ sym (closest-more m (2 ^ d) more)

module _ (w : ℕ) (p : w % 2 ^ 31 ≤ 0x4F000000) (h : 150 ≤ exponent_of w) where
  shifted : (2 ^ 23 + digits_of w) * 2 ^ (exponent_of w - 150) % 2 ^ 32 ≡ (2 ^ 23 + digits_of w) * 2 ^ (exponent_of w - 150)
  shifted = shl_exact 24 (exponent_of w - 150) 32 (omega arith) (omega (arith, fields w))

  pub nearest-shifted : (2 ^ 23 + digits_of w) * 2 ^ (exponent_of w - 150) % 2 ^ 32 ≡ nearest_size_of w
  nearest-shifted = shifted ∙ sym (nearest-whole w h)

  pub truncated-shifted : (2 ^ 23 + digits_of w) * 2 ^ (exponent_of w - 150) % 2 ^ 32 ≡ truncated_size_of w
  truncated-shifted = shifted ∙ sym (truncated-whole w h)
