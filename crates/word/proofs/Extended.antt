-- The laws of specs/Extend, proved.
use Prim.Native.Nat.{ℕ, suc, ◌+◌, ◌-◌, ◌*◌, ◌/◌, ◌%◌, ◌<◌, ◌≤◌, ◌^◌}
use native.Mathlib.Decide.{dec_lt}
use native.Mathlib.Nat.{div-eq_of_lt, pow-suc}
use native.Mathlib.Omega.{arith}
use mathlib.Core.Path.{◌≡◌, sym, ap, ◌∙◌}
use borrow.Author.Tests.{lt-ltb, le-ltb}
use lib.Pow.{pow_pos, pow_mono, pow-add, high, high_ones}
use Rattle.word.specs.Extend.{extend_to, extend_of, ExtendedWord, ExtendedSigned, ExtendedBits}
use Rattle.word.proofs.Integers.{is-equal}
use Rattle.word.proofs.Readings.{reading-low, reading-high}

to_low : (bits half x : ℕ) → x < half → extend_to bits half x ≡ x
to_low bits half x h = simp (lt-ltb x half h)

to_high : (bits half x : ℕ) → half ≤ x → extend_to bits half x ≡ x + (2 ^ bits - 2 * half)
to_high bits half x h = simp (le-ltb x half h)

pub extend-low : (half x : ℕ) → x < half → extend_of half x ≡ x
unfolding extend_of
extend-low half x h = to_low 32 half x h

pub extend-high : (half x : ℕ) → half ≤ x → extend_of half x ≡ x + (2 ^ 32 - 2 * half)
unfolding extend_of
extend-high half x h = to_high 32 half x h

pub extended-word : ExtendedWord
extended-word n half x small h =
    let range = pow-suc 2 n in
    elim (dec_lt x half) [
      | yes p ↦ rw (to_low (suc n) half x p) (omega arith)
      | no q ↦
          let above : half ≤ x = omega arith in
          rw (to_high (suc n) half x above) (omega arith)
    ]

-- at 32 bits
pub extend-word : (half x : ℕ) → half ≤ 2 ^ 31 → x < 2 * half → extend_of half x < 2 ^ 32
unfolding extend_of
extend-word half x small h = extended-word 31 half x small h

pub extended-signed : ExtendedSigned
extended-signed n half x small h =
    let range = pow-suc 2 n in
    elim (dec_lt x half) [
      | yes p ↦ rw (to_low (suc n) half x p) (is-equal (reading-low (2 ^ n) x (omega arith)) (reading-low half x p) (omega arith))
      | no q ↦
          let above : half ≤ x = omega arith in
          rw (to_high (suc n) half x above)
          (is-equal (reading-high (2 ^ n) (x + (2 ^ suc n - 2 * half)) (omega arith)) (reading-high half x above) (omega arith))
    ]

module _ (bits k j x : ℕ) (low : k ≤ j) (less : j < bits) where
  clear : x < 2 ^ k → x / 2 ^ j % 2 ≡ x / 2 ^ k
  clear h =
      let wide : x < 2 ^ j = omega (arith, pow_mono low) in
      ap (λ (n : ℕ). n % 2) (div-eq_of_lt wide) ∙ sym (div-eq_of_lt h)

  set : 2 ^ k ≤ x → x < 2 * 2 ^ k → (x + (2 ^ bits - 2 * 2 ^ k)) / 2 ^ j % 2 ≡ x / 2 ^ k
  set above h =
      let mono : 2 ^ k ≤ 2 ^ j = pow_mono low in
      let all : bits - j + j ≡ bits = omega arith in
      let ones : 2 ^ bits - 2 ^ j ≡ (2 ^ (bits - j) - 1) * 2 ^ j = rw all at (high_ones (bits - j) j) in
      let next : 1 + (bits - 1 - j) ≡ bits - j = omega arith in
      let even : 2 ^ (bits - j) ≡ 2 * 2 ^ (bits - 1 - j) = rw next at (pow-add 2 1 (bits - 1 - j)) in
      let half : 2 ^ suc k ≤ 2 ^ bits = pow_mono {i = suc k} {j = bits} (omega arith) in
      let double = pow-suc 2 k in
      let most : 2 ^ j ≤ 2 ^ bits = pow_mono {i = j} {j = bits} (omega arith) in
      let parts : x + (2 ^ bits - 2 * 2 ^ k) ≡ (2 ^ (bits - j) - 1) * 2 ^ j + (x + 2 ^ j - 2 * 2 ^ k) = omega arith in
      let odd : (2 ^ (bits - j) - 1) % 2 ≡ 1 = omega (arith, pow_pos (bits - 1 - j)) in
      let sign : x ≡ 1 * 2 ^ k + (x - 2 ^ k) = omega arith in
      ap (λ (n : ℕ). n / 2 ^ j % 2) parts
      ∙ ap (λ (n : ℕ). n % 2) (high (2 ^ (bits - j) - 1) j (omega arith))
      ∙ odd
      ∙ sym (ap (λ (n : ℕ). n / 2 ^ k) sign ∙ high 1 k (omega arith))

pub extended-bits : ExtendedBits
extended-bits bits k j x h low less =
    elim (dec_lt x (2 ^ k)) [
      | yes p ↦ rw (to_low bits (2 ^ k) x p) (clear bits k j x low less p)
      | no q ↦
          let above : 2 ^ k ≤ x = omega arith in
          rw (to_high bits (2 ^ k) x above) (set bits k j x low less above h)
    ]
