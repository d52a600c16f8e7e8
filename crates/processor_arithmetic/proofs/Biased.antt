-- Signed readings plus 2 ^ 31, under sums and differences: what the laws of Signed and Compared rest on.
use Rattle.std.proofs.Common.{◌≡◌, ℕ, ◌+◌, ◌-◌, ◌/◌, ◌%◌, ◌^◌, ◌<◌, ◌+ℤ◌, ◌-ℤ◌, sym, ◌∙◌, arith, ne_eqb}
use native.Mathlib.Decide.{ℕ_discrete}
use native.Mathlib.Nat.{mod-add-mod}
use Rattle.word.proofs.Integers.{Is, is_sum, is-difference, is-moved}
use Rattle.processor_arithmetic.proofs.Bias.{biased_of, outside_of}
use Rattle.processor_arithmetic.specs.Integer.{signed}
use Rattle.processor_arithmetic.proofs.Reading.{signed-biased}

pub inside : (t : ℕ) → outside_of t ≡ 0 → (t + 2 ^ 31) / 2 ^ 32 ≡ 1
unfolding outside_of
inside t e =
    elim (ℕ_discrete ((t + 2 ^ 31) / 2 ^ 32) 1) [
      | yes p ↦ p
      | no n ↦
          let one : outside_of t ≡ 1 = simp (ne_eqb ((t + 2 ^ 31) / 2 ^ 32) 1 n) in
          omega arith
    ]

pub bias-small : (a : ℕ) → biased_of a < 2 ^ 32
unfolding biased_of
bias-small a = omega arith

pub sum-biased : (a b : ℕ) → a < 2 ^ 32 → b < 2 ^ 32 → Is (signed a +ℤ signed b) (biased_of a + biased_of b) (2 ^ 32)
sum-biased a b ha hb = is_sum (signed-biased a ha) (signed-biased b hb)

-- the bias of a word taken mod 2 ^ 32
pub bias-mod : (n : ℕ) → biased_of (n % 2 ^ 32) ≡ (n + 2 ^ 31) % 2 ^ 32
unfolding biased_of
bias-mod n = mod-add-mod n (2 ^ 32) (2 ^ 31)

sum-mod : (a b : ℕ) → (biased_of a + biased_of b + 2 ^ 31) % 2 ^ 32 ≡ (a + b + 2 ^ 31) % 2 ^ 32
sum-mod a b = unfold biased_of in omega arith

pub sum-bias : (a b : ℕ) → a < 2 ^ 32 → b < 2 ^ 32 → (biased_of a + biased_of b + 2 ^ 31) / 2 ^ 32 ≡ 1
    → biased_of ((a + b) % 2 ^ 32) + 2 ^ 32 ≡ biased_of a + biased_of b + 2 ^ 31
sum-bias a b ha hb e =
    let same : biased_of ((a + b) % 2 ^ 32) ≡ (biased_of a + biased_of b + 2 ^ 31) % 2 ^ 32 = bias-mod (a + b) ∙ sym (sum-mod a b) in
    omega arith

pub difference-biased : (a b : ℕ) → a < 2 ^ 32 → b < 2 ^ 32
    → Is (signed a -ℤ signed b) (biased_of a + (2 ^ 32 - biased_of b)) (2 ^ 32)
difference-biased a b ha hb =
    is-moved (is-difference (signed-biased a ha) (signed-biased b hb)) (omega (arith, bias-small b))

pub difference-mod : (a b : ℕ) → b < 2 ^ 32
    → (biased_of a + (2 ^ 32 - biased_of b) + 2 ^ 31) % 2 ^ 32 ≡ (a + (2 ^ 32 - b) + 2 ^ 31) % 2 ^ 32
difference-mod a b hb = unfold biased_of in omega arith

pub difference-bias : (a b : ℕ) → a < 2 ^ 32 → b < 2 ^ 32 → (biased_of a + (2 ^ 32 - biased_of b) + 2 ^ 31) / 2 ^ 32 ≡ 1
    → biased_of ((a + (2 ^ 32 - b)) % 2 ^ 32) + 2 ^ 32 ≡ biased_of a + (2 ^ 32 - biased_of b) + 2 ^ 31
difference-bias a b ha hb e =
    let same : biased_of ((a + (2 ^ 32 - b)) % 2 ^ 32) ≡ (biased_of a + (2 ^ 32 - biased_of b) + 2 ^ 31) % 2 ^ 32 =
    bias-mod (a + (2 ^ 32 - b)) ∙ sym (difference-mod a b hb)
    in
    omega arith
