-- The laws of specs/Floors, proved.
use Prim.Native.Nat.{ℕ, suc, ◌+◌, ◌-◌, ◌*◌, ◌/◌, ◌%◌, ◌<◌, ◌≤◌}
use native.Mathlib.Nat as NatL
use native.Mathlib.Omega.{arith}
use mathlib.Core.Path.{◌≡◌, sym, ap, subst, ◌∙◌}
use lib.IntN.{ℤ, pos, negsuc, ◌+ℤ◌, ◌-ℤ◌, ◌*ℤ◌, +ℤ_comm, -ℤ-+ℤ_cancel}
use lib.Signed.{shr_z, ◌≤ℤ◌, ◌<ℤ◌}
use Rattle.word.proofs.Integers.{Is, is_pos, is_sum, is-difference, is-times, is-natural, is_le, is_lt}
use Rattle.word.specs.Floors.{mod_z}

-- every integer is such a difference
record Based (z : ℤ) (m : ℕ) : Type 0 where
  up : ℕ
  times : ℕ
  is : Is z up (times * m)

-- the quotient of k * m - 1 - n
below : (m k n a : ℕ) → 0 < m → a + suc n ≡ k * m → a / m + suc (n / m) ≡ k
below m k n a h e =
    let q = n / m in
    let split = NatL.div-add-mod' n m in
    let small = NatL.mod-lt n h in
    let l : n / m * m < k * m = omega arith in
    let l' : n / m < k = NatL.lt_of_mul-lt-mul_left m (subst (λ v. v < m * k) (NatL.mul_comm (n / m) m) (subst (λ v. n / m * m < v) (NatL.mul_comm k m) l)) in
    let t = k - suc (n / m) in
    let whole : k ≡ t + suc (n / m) = omega arith in
    let spread : k * m ≡ t * m + (n / m * m + m) = ap (λ v. v * m) whole ∙ NatL.add-mul t (suc (n / m)) m ∙ ap (λ v. t * m + v) (NatL.suc-mul (n / m) m) in
    let r = m - suc (n % m) in
    let parts : a ≡ t * m + r = omega arith in
    let small' : r < m = omega arith in
    let quotient : a / m ≡ t = ap (λ v. v / m) parts ∙ NatL.mul-add-div_right h t r ∙ ap (λ v. t + v) (NatL.div-eq_of_lt small') ∙ NatL.add-zero t in
    omega arith

shifted : (z : ℤ) (m a k : ℕ) → 0 < m → Is z a (k * m) → Is (shr_z z m) (a / m) k
shifted (pos n) m a k h i = record { gap = ap (λ v. v / m) i.gap ∙ NatL.add-mul-div_right n k h }
shifted (negsuc n) m a k h i = record { gap = below m k n a h i.gap }

-- the quotient of a difference whose second number is a multiple
pub is-floor : {z : ℤ} {a : ℕ} (m k : ℕ) → 0 < m → Is z a (k * m) → Is (shr_z z m) (a / m) k
is-floor {z} {a} m k h i = shifted z m a k h i

-- its remainder
pub is-mod : {z : ℤ} {a : ℕ} (m k : ℕ) → 0 < m → Is z a (k * m) → pos (a % m) ≡ mod_z z m
unfolding mod_z
is-mod {z} {a} m k h i =
    let split = NatL.div-add-mod' a m in
    is-natural (a % m) (is-difference i (is-times (is-floor m k h i) (is_pos m))) (omega arith)

-- z is its quotient times m, and the remainder
pub floor-split : (z : ℤ) (m : ℕ) → z ≡ shr_z z m *ℤ pos m +ℤ mod_z z m
unfolding mod_z
floor-split z m = sym (+ℤ_comm (shr_z z m *ℤ pos m) (z -ℤ shr_z z m *ℤ pos m) ∙ -ℤ-+ℤ_cancel z (shr_z z m *ℤ pos m))

based : (z : ℤ) (m : ℕ) → 0 < m → Based z m
based (pos n) m h = record { up = n; times = 0; is = record { gap = omega arith } }
based (negsuc n) m h =
    let wide : suc n * 1 ≤ suc n * m = NatL.mul-le-mul_left (suc n) h in
    record { up = suc n * m - suc n; times = suc n; is = record { gap = omega arith } }

-- floor(z / m) * m ≤ z < (floor(z / m) + 1) * m
pub floor-below : (z : ℤ) (m : ℕ) → 0 < m → (shr_z z m *ℤ pos m) ≤ℤ z
floor-below z m h =
    let b = based z m h in
    let split = NatL.div-add-mod' b.up m in
    is_le (is-times (is-floor m b.times h b.is) (is_pos m)) b.is (omega arith)

pub floor-above : (z : ℤ) (m : ℕ) → 0 < m → z <ℤ ((shr_z z m +ℤ pos 1) *ℤ pos m)
floor-above z m h =
    let b = based z m h in
    let split = NatL.div-add-mod' b.up m in
    let small = NatL.mod-lt b.up h in
    let one = NatL.add-mul (b.up / m) 1 m in
    let none = NatL.add-mul b.times 0 m in
    is_lt b.is (is-times (is_sum (is-floor m b.times h b.is) (is_pos 1)) (is_pos m)) (omega arith)

-- 0 ≤ z mod m < m
pub mod_low : (z : ℤ) (m : ℕ) → 0 < m → pos 0 ≤ℤ mod_z z m
mod_low z m h =
    let b = based z m h in
    subst (λ v. pos 0 ≤ℤ v) (is-mod m b.times h b.is) (is_le (is_pos 0) (is_pos (b.up % m)) (omega arith))

pub mod-high : (z : ℤ) (m : ℕ) → 0 < m → mod_z z m <ℤ pos m
mod-high z m h =
    let b = based z m h in
    let small = NatL.mod-lt b.up h in
    subst (λ v. v <ℤ pos m) (is-mod m b.times h b.is) (is_lt (is_pos (b.up % m)) (is_pos m) (omega arith))
