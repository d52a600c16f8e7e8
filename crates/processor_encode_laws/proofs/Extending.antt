-- A signed field and the word that it is extended to give each other, at each width that the formats have. Assumes nothing.
use Prim.Native.Nat.{ℕ, ◌+◌, ◌-◌, ◌*◌, ◌%◌, ◌≤◌, ◌<◌, ◌^◌}
use mathlib.Core.Bool.{true, false≢true}
use mathlib.Core.Path.{◌≡◌, ◌∙◌, ap}
use native.Mathlib.Decide.{dec_lt}
use native.Mathlib.Omega.{arith}
use borrow.Author.Tests.{lt-ltb, le-ltb, ltb-true}
use Rattle.word.specs.Extend.{extend_of}
use Rattle.word.proofs.Extended.{extend-low, extend-high}
use Rattle.processor_encode.specs.Range.{signed_in}

-- what a width's numbers do: low words are their own low bits, and the last words end in the high half
pub record Width (half : ℕ) : Type 0 where
  pub low : (x : ℕ) → x < half → x % (2 * half) ≡ x
  pub high : (x : ℕ) → 2 ^ 32 - half ≤ x → x < 2 ^ 32 → (half ≤ x % (2 * half)) × (x % (2 * half) + (2 ^ 32 - 2 * half) ≡ x)
  pub back : (y : ℕ) → half ≤ y → y < 2 * half → (y + (2 ^ 32 - 2 * half)) % (2 * half) ≡ y
  pub small : half ≤ 2 ^ 31

pub five : Width 16
five = record { low = λ x h. omega arith; high = λ x h k. (omega arith, omega arith); back = λ y h k. omega arith; small = omega arith }

pub nine : Width 256
nine = record { low = λ x h. omega arith; high = λ x h k. (omega arith, omega arith); back = λ y h k. omega arith; small = omega arith }

pub sixteen : Width 32768
sixteen = record { low = λ x h. omega arith; high = λ x h k. (omega arith, omega arith); back = λ y h k. omega arith; small = omega arith }

pub twenty-six : Width 33554432
twenty-six = record { low = λ x h. omega arith; high = λ x h k. (omega arith, omega arith); back = λ y h k. omega arith; small = omega arith }

module _ (half : ℕ) (w : Width half) where
  -- a word in the range is its low bits, extended
  not_low : (x : ℕ) → half ≤ x → signed_in half x ≡ true → (2 ^ 32 - half ≤ x) × (x < 2 ^ 32)
  unfolding signed_in
  not_low x above h =
      elim (dec_lt x (2 ^ 32 - half)) [
        | yes p ↦ absurd (false≢true (simp (le-ltb x half above, lt-ltb x (2 ^ 32 - half) p) at h))
        | no n ↦
            let p : 2 ^ 32 - half ≤ x = omega arith in
            (p, ltb-true x (2 ^ 32) (simp (le-ltb x half above, le-ltb x (2 ^ 32 - half) p) at h))
      ]

  pub extend-word : (x : ℕ) → signed_in half x ≡ true → extend_of half (x % (2 * half)) ≡ x
  extend-word x h =
      elim (dec_lt x half) [
        | yes p ↦ ap (extend_of half) (w.low x p) ∙ extend-low half x p
        | no n ↦
            let above : half ≤ x = omega arith in
            let last = not_low x above h in
            let high = w.high x last.0 last.1 in
            extend-high half (x % (2 * half)) high.0 ∙ high.1
      ]

  -- a field, extended, is a word in the range, and its low bits are the field
  pub extended-in : (y : ℕ) → y < 2 * half → signed_in half (extend_of half y) ≡ true
  unfolding signed_in
  extended-in y k =
      elim (dec_lt y half) [
        | yes p ↦ rw (extend-low half y p) (simp (lt-ltb y half p))
        | no n ↦
            let above : half ≤ y = omega arith in
            let small = w.small in
            let up : half ≤ y + (2 ^ 32 - 2 * half) = omega arith in
            let last : 2 ^ 32 - half ≤ y + (2 ^ 32 - 2 * half) = omega arith in
            let wide : y + (2 ^ 32 - 2 * half) < 2 ^ 32 = omega arith in
            rw (extend-high half y above) (simp (le-ltb _ half up, le-ltb _ (2 ^ 32 - half) last, lt-ltb _ (2 ^ 32) wide))
      ]

  pub extended-low : (y : ℕ) → y < 2 * half → extend_of half y % (2 * half) ≡ y
  extended-low y k =
      elim (dec_lt y half) [
        | yes p ↦ rw (extend-low half y p) (w.low y p)
        | no n ↦
            let above : half ≤ y = omega arith in
            rw (extend-high half y above) (w.back y above k)
      ]
