-- Sizes, products and quotients of whole numbers by their signs. Assumes nothing.
use Prim.Native.Nat.{ℕ, zero, suc, ◌*◌, ◌/◌, ◌%◌, ◌<◌}
use mathlib.Core.Path.{◌≡◌, refl, sym, ap, ◌∙◌}
use native.Mathlib.Nat.{mul-zero, zero-mul, zero-div, zero-mod}
use native.Mathlib.Omega.{arith}
use lib.IntN.{ℤ, pos, negsuc, neg_ℤ, nat_abs, ◌*ℤ◌, neg_ℤ-neg_ℤ}
use lib.Signed.{quot_z, rem_z}

pub size-negative : (n : ℕ) → nat_abs (neg_ℤ (pos n)) ≡ n
size-negative zero = refl
size-negative (suc n) = refl

pub times-negative : (m n : ℕ) → pos m *ℤ neg_ℤ (pos n) ≡ neg_ℤ (pos (m * n))
times-negative m zero = rw (mul-zero m)
times-negative m (suc n) = refl

pub negative-times : (m n : ℕ) → neg_ℤ (pos m) *ℤ pos n ≡ neg_ℤ (pos (m * n))
negative-times zero n = rw (zero-mul n)
negative-times (suc m) n = refl

pub negative-negative : (m n : ℕ) → neg_ℤ (pos m) *ℤ neg_ℤ (pos n) ≡ pos (m * n)
negative-negative zero n = times-negative 0 n ∙ rw (zero-mul n)
negative-negative (suc m) zero = rw (mul-zero (suc m))
negative-negative (suc m) (suc n) = refl

pub opposite-times : (z : ℤ) (n : ℕ) → neg_ℤ z *ℤ pos n ≡ neg_ℤ (z *ℤ pos n)
opposite-times (pos m) n = negative-times m n
opposite-times (negsuc m) n = sym (neg_ℤ-neg_ℤ (pos (suc m * n)))

-- a quotient towards zero, and its remainder
pub quotient-divisor : (m d : ℕ) → 0 < d → quot_z (pos m) (neg_ℤ (pos d)) ≡ neg_ℤ (pos (m / d))
quotient-divisor m zero h = absurd (omega arith)
quotient-divisor m (suc d) h = refl

pub quotient-dividend : (m d : ℕ) → quot_z (neg_ℤ (pos m)) (pos d) ≡ neg_ℤ (pos (m / d))
quotient-dividend zero d = rw (zero-div d)
quotient-dividend (suc m) d = refl

pub quotient-both : (m d : ℕ) → 0 < d → quot_z (neg_ℤ (pos m)) (neg_ℤ (pos d)) ≡ pos (m / d)
quotient-both m zero h = absurd (omega arith)
quotient-both zero (suc d) h = rw (zero-div (suc d))
quotient-both (suc m) (suc d) h = refl

pub remainder-divisor : (m d : ℕ) → rem_z (pos m) (neg_ℤ (pos d)) ≡ pos (m % d)
remainder-divisor m d = ap (λ (n : ℕ). pos (m % n)) (size-negative d)

pub remainder-dividend : (m d : ℕ) → rem_z (neg_ℤ (pos m)) (pos d) ≡ neg_ℤ (pos (m % d))
remainder-dividend zero d = rw (zero-mod d)
remainder-dividend (suc m) d = refl

pub remainder-both : (m d : ℕ) → rem_z (neg_ℤ (pos m)) (neg_ℤ (pos d)) ≡ neg_ℤ (pos (m % d))
remainder-both zero d = rw (size-negative d, zero-mod d)
remainder-both (suc m) d = ap (λ (n : ℕ). neg_ℤ (pos (suc m % n))) (size-negative d)
