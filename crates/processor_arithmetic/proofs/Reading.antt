-- A signed word as the difference of two natural numbers, and as a magnitude with a sign.
use Rattle.std.proofs.Common.{◌≡◌, ℕ, zero, suc, ◌+◌, ◌-◌, ◌*◌, ◌/◌, ◌^◌, ◌<◌, ◌≤◌, Bool, true, ltb, leb, ℤ, pos, neg_ℤ, nat_abs, sym, refl, ap, ◌∙◌, ap₂, arith, le-ltb, lt-ltb, eq-eqb, ne_eqb, le-leb}
use native.Mathlib.Decide.{dec_lt}
use borrow.Author.Tests.{lt-leb}
use Rattle.word.specs.Choose.{pick}
use Rattle.word.specs.Extend.{signed_of}
use Rattle.word.proofs.Choices.{pick-self, less-same}
use Rattle.word.proofs.Integers.{Is, is_pos, is-minus, is-equal, is-lt-test, is-le-test}
use Rattle.word.proofs.Readings.{reading-high, reading-biased}
use Rattle.word.proofs.Signs.{size-negative}
use Rattle.processor_arithmetic.specs.Flag.{bit_of}
use Rattle.processor_arithmetic.specs.Sign.{magnitude_of}
use Rattle.processor_arithmetic.proofs.Bias.{biased_of, outside_of}
use Rattle.processor_arithmetic.specs.Integer.{signed, outside}

-- a signed reading by the biased one
pub signed-biased : (a : ℕ) → a < 2 ^ 32 → Is (signed a) (biased_of a) (2 ^ 31)
unfolding biased_of
signed-biased a h = reading-biased (2 ^ 31) a h

-- a signed reading by the magnitude and the sign
pub signed_low : (a : ℕ) → a < 2 ^ 31 → signed a ≡ pos (magnitude_of a)
unfolding signed_of magnitude_of
signed_low a l = simp (lt-ltb a (2 ^ 31) l)

pub signed_high : (a : ℕ) → a < 2 ^ 32 → 2 ^ 31 ≤ a → signed a ≡ neg_ℤ (pos (magnitude_of a))
unfolding magnitude_of
signed_high a h g =
    simp (le-ltb a (2 ^ 31) g) (is-equal (reading-high (2 ^ 31) a g) (is-minus (is_pos (2 ^ 32 - a))) (omega arith))

pub magnitude-low : (a : ℕ) → a < 2 ^ 31 → magnitude_of a ≡ a
unfolding magnitude_of
magnitude-low a h = simp (lt-ltb a (2 ^ 31) h)

pub magnitude-high : (a : ℕ) → 2 ^ 31 ≤ a → magnitude_of a ≡ 2 ^ 32 - a
unfolding magnitude_of
magnitude-high a h = simp (le-ltb a (2 ^ 31) h)

pub magnitude-small : (a : ℕ) → magnitude_of a ≤ 2 ^ 31
magnitude-small a =
    elim (dec_lt a (2 ^ 31)) [
      | yes h ↦ omega (arith, magnitude-low a h)
      | no h ↦
          let g : 2 ^ 31 ≤ a = omega arith in
          omega (arith, magnitude-high a g)
    ]

-- the magnitude is the absolute value of the signed reading
pub magnitude-absolute : (a : ℕ) → a < 2 ^ 32 → nat_abs (signed a) ≡ magnitude_of a
magnitude-absolute a h =
    elim (dec_lt a (2 ^ 31)) [
      | yes l ↦ ap nat_abs (signed_low a l)
      | no l ↦ ap nat_abs (signed_high a h (omega arith)) ∙ size-negative (magnitude_of a)
    ]

-- -n is a signed word, down to -2 ^ 31
pub outside-opposite : (n : ℕ) → outside (neg_ℤ (pos n)) ≡ ltb (2 ^ 31) n
outside-opposite zero = refl
outside-opposite (suc n) = pick-self (ltb (2 ^ 31 - 1) n) ∙ less-same (2 ^ 31 - 1) n (2 ^ 31) (suc n) (omega arith) (omega arith)

-- `outside` of a number given plus 2 ^ 32, as the definition of OV tests it
pub outside-bit : {z : ℤ} (t : ℕ) → Is z t (2 ^ 32) → outside_of t ≡ bit_of (outside z)
unfolding outside_of
outside-bit {z} t i =
    tests
    ∙ sym (ap₂ (λ (b c : Bool). bit_of (pick b true c)) (is-lt-test i (is-minus (is_pos (2 ^ 31)))) (is-le-test (is_pos (2 ^ 31)) i))
  where
    tests : outside_of t ≡ bit_of (pick (ltb (t + 2 ^ 31) (0 + 2 ^ 32)) true (leb (2 ^ 31 + 2 ^ 32) (t + 0)))
    tests =
        elim (dec_lt (t + 2 ^ 31) (0 + 2 ^ 32)) [
          | yes h ↦ simp (ne_eqb ((t + 2 ^ 31) / 2 ^ 32) 1 (omega arith), lt-ltb (t + 2 ^ 31) (0 + 2 ^ 32) h)
          | no h ↦
              let g : 0 + 2 ^ 32 ≤ t + 2 ^ 31 = omega arith in
              elim (dec_lt (t + 0) (2 ^ 31 + 2 ^ 32)) [
                | yes l ↦
                    simp (eq-eqb ((t + 2 ^ 31) / 2 ^ 32) 1 (omega arith), le-ltb (t + 2 ^ 31) (0 + 2 ^ 32) g, lt-leb (2 ^ 31 + 2 ^ 32) (t + 0) l)
                | no l ↦
                    let k : 2 ^ 31 + 2 ^ 32 ≤ t + 0 = omega arith in
                    simp (ne_eqb ((t + 2 ^ 31) / 2 ^ 32) 1 (omega arith), le-ltb (t + 2 ^ 31) (0 + 2 ^ 32) g, le-leb (2 ^ 31 + 2 ^ 32) (t + 0) k)
              ]
        ]

-- a reading at any width: a number below half the range is itself, and the number of -m is -m
pub plain-reading : (half m : ℕ) → m < half → signed_of half m ≡ pos m
unfolding signed_of
plain-reading half m h = simp (lt-ltb m half h)

pub negative-reading : (half m : ℕ) → 0 < m → m ≤ half → signed_of half (2 * half - m) ≡ neg_ℤ (pos m)
negative-reading half m h k =
    is-equal (reading-high half (2 * half - m) (omega arith)) (is-minus (is_pos m)) (omega arith)
