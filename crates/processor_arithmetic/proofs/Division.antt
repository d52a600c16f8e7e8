-- DIV by magnitudes and signs, as the code makes it: the quotient and the remainder of the magnitudes, with the signs put
-- back, are the words of the quotient and the remainder over the whole numbers. The laws of Divided rest on it.
use Rattle.std.proofs.Common.{◌≡◌, ℕ, zero, suc, ◌+◌, ◌-◌, ◌*◌, ◌/◌, ◌%◌, ◌^◌, ◌<◌, ◌≤◌, Bool, true, false, eqb, ltb, ◌≢◌, ℤ, pos, neg_ℤ, sym, refl, ap, ◌∙◌, mod-lt, div-add-mod', div-le_self, arith, le-ltb, lt-ltb, eq-eqb, ne_eqb}
use native.Mathlib.Decide.{dec_lt, ℕ_discrete}
use native.Mathlib.Nat.{div-lt_self}
use borrow.Author.Tests.{lt-leb}
use lib.Signed.{quot_z, rem_z}
use Rattle.word.specs.Choose.{pick}
use Rattle.word.specs.Extend.{signed_of}
use Rattle.word.proofs.Choices.{pick-either}
use Rattle.word.proofs.Signs.{quotient-divisor, quotient-dividend, quotient-both, remainder-divisor, remainder-dividend, remainder-both}
use Rattle.processor_arithmetic.specs.Flag.{bit_of, sign_of}
use Rattle.processor_arithmetic.specs.Sign.{magnitude_of, negative_of}
use Rattle.processor_arithmetic.specs.Integer.{signed, outside, complement_of}
use Rattle.processor_arithmetic.proofs.Reading.{magnitude-low, magnitude-high, magnitude-small, signed_low}
use Rattle.processor_arithmetic.proofs.Reading.{signed_high, plain-reading, negative-reading, outside-opposite}
use Rattle.processor_arithmetic.proofs.Magnitude.{magnitude-positive}
use Rattle.processor_arithmetic.proofs.Complement.{complement-below}
use Rattle.processor_arithmetic.specs.Truncation.{Truncated}
use Rattle.processor_arithmetic.proofs.Truncation.{both_positive, divisor-negative, dividend-negative, both_negative}

-- the quotient: that of the magnitudes, negative where the signs differ
unfoldable pub signs_quotient_of : ℕ → ℕ → ℕ
signs_quotient_of a b =
    let q = magnitude_of a / magnitude_of b in
    pick (eqb (sign_of a) (sign_of b)) q (negative_of q)

-- the remainder: that of the magnitudes, with the sign of the dividend
unfoldable pub signs_remainder_of : ℕ → ℕ → ℕ
signs_remainder_of a b =
    let r = magnitude_of a % magnitude_of b in
    pick (ltb a (2 ^ 31)) r (negative_of r)

-- OV: 1 for 0x80000000 by -1
unfoldable pub quotient_overflows_of : ℕ → ℕ → ℕ
quotient_overflows_of a b = pick (eqb a (2 ^ 31)) (pick (eqb b (2 ^ 32 - 1)) 1 0) 0

-- the word of -m, read signed
pub negative-word : (m : ℕ) → m ≤ 2 ^ 31 → signed (negative_of m) ≡ neg_ℤ (pos m)
unfolding negative_of signed_of
negative-word zero h = refl
negative-word (suc m) h =
    let e : (2 ^ 32 - suc m) % 2 ^ 32 ≡ 2 ^ 32 - suc m = omega arith in
    rw e (negative-reading (2 ^ 31) (suc m) (omega arith) h)

-- the word of a whole number is below 2 ^ 32
pub complement-word : (z : ℤ) → complement_of (2 ^ 32) z < 2 ^ 32
complement-word z = complement-below (2 ^ 32) (omega arith) z

-- the word of -m
complement-negative : (m : ℕ) → m ≤ 2 ^ 31 → complement_of (2 ^ 32) (neg_ℤ (pos m)) ≡ negative_of m
unfolding negative_of
complement-negative zero h = refl
complement-negative (suc m) h = omega arith

-- which quotients are signed words
inside-negative : (m : ℕ) → m ≤ 2 ^ 31 → outside (neg_ℤ (pos m)) ≡ false
inside-negative m h = outside-opposite m ∙ le-ltb (2 ^ 31) m h

inside-positive : (m : ℕ) → m < 2 ^ 31 → outside (pos m) ≡ false
inside-positive m h = lt-leb (2 ^ 31) m h

same-signs : (a b : ℕ) → sign_of a ≡ sign_of b → signs_quotient_of a b ≡ magnitude_of a / magnitude_of b
unfolding signs_quotient_of
same-signs a b e = simp (eq-eqb (sign_of a) (sign_of b) e)

other-signs : (a b : ℕ) → sign_of a ≢ sign_of b → signs_quotient_of a b ≡ negative_of (magnitude_of a / magnitude_of b)
unfolding signs_quotient_of
other-signs a b e = simp (ne_eqb (sign_of a) (sign_of b) e)

remainder-low : (a b : ℕ) → a < 2 ^ 31 → signs_remainder_of a b ≡ magnitude_of a % magnitude_of b
unfolding signs_remainder_of
remainder-low a b h = simp (lt-ltb a (2 ^ 31) h)

remainder-high : (a b : ℕ) → 2 ^ 31 ≤ a → signs_remainder_of a b ≡ negative_of (magnitude_of a % magnitude_of b)
unfolding signs_remainder_of
remainder-high a b h = simp (le-ltb a (2 ^ 31) h)

quotient-small : (a b : ℕ) → magnitude_of a / magnitude_of b ≤ 2 ^ 31
quotient-small a b = omega (arith, div-le_self (magnitude_of a) (magnitude_of b), magnitude-small a)

pub overflows-bit : (a b : ℕ) → quotient_overflows_of a b ≡ bit_of (pick (eqb a 0x80000000) (eqb b 0xFFFFFFFF) false)
unfolding quotient_overflows_of
overflows-bit a b = choice (eqb a 0x80000000) (eqb b 0xFFFFFFFF)
  where
    choice : (s t : Bool) → pick s (pick t 1 0) 0 ≡ bit_of (pick s t false)
    choice true true = refl
    choice true false = refl
    choice false t = refl

not_first : (a b : ℕ) → a ≢ 2 ^ 31 → quotient_overflows_of a b ≡ 0
unfolding quotient_overflows_of
not_first a b e = simp (ne_eqb a (2 ^ 31) e)

not-second : (a b : ℕ) → b ≢ 2 ^ 32 - 1 → quotient_overflows_of a b ≡ 0
unfolding quotient_overflows_of
not-second a b e = simp (ne_eqb b (2 ^ 32 - 1) e) (pick-either (eqb a (2 ^ 31)) 0)

not-both : (a b : ℕ) → quotient_overflows_of a b ≡ 0 → a ≡ 2 ^ 31 → b ≢ 2 ^ 32 - 1
not-both a b e p q =
    let one : quotient_overflows_of a b ≡ 1 =
    overflows-bit a b ∙ simp (eq-eqb a 0x80000000 p, eq-eqb b 0xFFFFFFFF q)
    in
    omega arith

-- of a dividend n and a divisor d: the words q and r of the quotient and the remainder, OV, and that where OV is 0 these
-- words read signed are the division towards zero
pub record Divides (n d : ℤ) (q r ov : ℕ) : Type 0 where
  pub quotient : complement_of (2 ^ 32) (quot_z n d) ≡ q
  pub remainder : complement_of (2 ^ 32) (rem_z n d) ≡ r
  pub overflow : bit_of (outside (quot_z n d)) ≡ ov
  pub truncates : ov ≡ 0 → Truncated n d (signed q) (signed r)

-- of two negative words, the quotient of the magnitudes is a signed word but for the one case
negatives-small : (a b : ℕ) → a < 2 ^ 32 → b < 2 ^ 32 → 2 ^ 31 ≤ a → 2 ^ 31 ≤ b → (a ≡ 2 ^ 31 → b ≢ 2 ^ 32 - 1)
    → magnitude_of a / magnitude_of b < 2 ^ 31
negatives-small a b ha hb ga gb other =
    elim (ℕ_discrete a (2 ^ 31)) [
      | yes p ↦
          let n : b ≢ 2 ^ 32 - 1 = other p in
          let two : 1 < magnitude_of b = omega (arith, magnitude-high b gb) in
          let some : 0 < magnitude_of a = omega (arith, magnitude-high a ga) in
          omega (arith, div-lt_self {n = magnitude_of a} {k = magnitude_of b} some two, magnitude-small a)
      | no p ↦ omega (arith, div-le_self (magnitude_of a) (magnitude_of b), magnitude-high a ga)
    ]

-- OV of two negative words
negatives-overflow : (a b : ℕ) → a < 2 ^ 32 → b < 2 ^ 32 → 2 ^ 31 ≤ a → 2 ^ 31 ≤ b
    → bit_of (outside (pos (magnitude_of a / magnitude_of b))) ≡ quotient_overflows_of a b
negatives-overflow a b ha hb ga gb =
    elim (ℕ_discrete a (2 ^ 31)) [
      | yes p ↦ elim (ℕ_discrete b (2 ^ 32 - 1)) [
        | yes q ↦ rw (p, q) (unfold magnitude_of quotient_overflows_of in refl)
        | no q ↦
            ap bit_of (inside-positive _ (negatives-small a b ha hb ga gb (λ _. q))) ∙ sym (not-second a b q)
      ]
      | no p ↦
          ap bit_of (inside-positive _ (negatives-small a b ha hb ga gb (λ e. absurd (p e)))) ∙ sym (not_first a b p)
    ]

pub by-signs : (a b : ℕ) → a < 2 ^ 32 → b < 2 ^ 32 → b ≢ 0
    → Divides (signed a) (signed b) (signs_quotient_of a b) (signs_remainder_of a b) (quotient_overflows_of a b)
by-signs a b ha hb n =
    let ma = magnitude_of a in
    let mb = magnitude_of b in
    let q = magnitude_of a / magnitude_of b in
    let r = magnitude_of a % magnitude_of b in
    let e : magnitude_of a ≡ magnitude_of a / magnitude_of b * magnitude_of b + magnitude_of a % magnitude_of b =
    sym (div-add-mod' ma mb)
    in
    let hp : 0 < magnitude_of b = magnitude-positive b (omega arith) hb in
    let h : magnitude_of a % magnitude_of b < magnitude_of b = mod-lt ma hp in
    let sb : magnitude_of b ≤ 2 ^ 31 = magnitude-small b in
    let hq : magnitude_of a / magnitude_of b ≤ 2 ^ 31 = quotient-small a b in
    let hr : magnitude_of a % magnitude_of b < 2 ^ 31 = omega arith in
    let wq : magnitude_of a / magnitude_of b % 2 ^ 32 ≡ magnitude_of a / magnitude_of b = omega arith in
    let wr : magnitude_of a % magnitude_of b % 2 ^ 32 ≡ magnitude_of a % magnitude_of b = omega arith in
    elim (dec_lt a (2 ^ 31)) [
      | yes la ↦
          let hs : magnitude_of a / magnitude_of b < 2 ^ 31 = omega (arith, div-le_self ma mb, magnitude-low a la) in
          let differs : a ≢ 2 ^ 31 = λ x. omega arith in
          elim (dec_lt b (2 ^ 31)) [
            | yes lb ↦
                rw (signed_low a la, signed_low b lb, same-signs a b (omega arith), remainder-low a b la, not_first a b differs)
                record {
                  quotient = wq;
                  remainder = wr;
                  overflow = ap bit_of (inside-positive q hs);
                  truncates = λ _. rw (plain-reading (2 ^ 31) q hs, plain-reading (2 ^ 31) r hr) (both_positive ma mb q r e h);
                }
            | no lb ↦
                let gb : 2 ^ 31 ≤ b = omega arith in
                rw (signed_low a la, signed_high b hb gb, other-signs a b (omega arith), remainder-low a b la, not_first a b differs)
                record {
                  quotient = ap (complement_of (2 ^ 32)) (quotient-divisor ma mb hp) ∙ complement-negative q hq;
                  remainder = ap (complement_of (2 ^ 32)) (remainder-divisor ma mb) ∙ wr;
                  overflow = ap (λ (z : ℤ). bit_of (outside z)) (quotient-divisor ma mb hp) ∙ ap bit_of (inside-negative q hq);
                  truncates = λ _. rw (negative-word q hq, plain-reading (2 ^ 31) r hr) (divisor-negative ma mb q r e h);
                }
          ]
      | no la ↦
          let ga : 2 ^ 31 ≤ a = omega arith in
          elim (dec_lt b (2 ^ 31)) [
            | yes lb ↦
                let differs : b ≢ 2 ^ 32 - 1 = λ x. omega arith in
                rw (signed_high a ha ga, signed_low b lb, other-signs a b (omega arith), remainder-high a b ga, not-second a b differs)
                record {
                  quotient = ap (complement_of (2 ^ 32)) (quotient-dividend ma mb) ∙ complement-negative q hq;
                  remainder = ap (complement_of (2 ^ 32)) (remainder-dividend ma mb) ∙ complement-negative r (omega arith);
                  overflow = ap (λ (z : ℤ). bit_of (outside z)) (quotient-dividend ma mb) ∙ ap bit_of (inside-negative q hq);
                  truncates = λ _. rw (negative-word q hq, negative-word r (omega arith)) (dividend-negative ma mb q r e h);
                }
            | no lb ↦
                let gb : 2 ^ 31 ≤ b = omega arith in
                rw (signed_high a ha ga, signed_high b hb gb, same-signs a b (omega arith), remainder-high a b ga)
                record {
                  quotient = ap (complement_of (2 ^ 32)) (quotient-both ma mb hp) ∙ wq;
                  remainder = ap (complement_of (2 ^ 32)) (remainder-both ma mb) ∙ complement-negative r (omega arith);
                  overflow = ap (λ (z : ℤ). bit_of (outside z)) (quotient-both ma mb hp) ∙ negatives-overflow a b ha hb ga gb;
                  truncates = λ ov.
                      let other : a ≡ 2 ^ 31 → b ≢ 2 ^ 32 - 1 = not-both a b ov in
                      let hs : magnitude_of a / magnitude_of b < 2 ^ 31 = negatives-small a b ha hb ga gb other in
                      rw (plain-reading (2 ^ 31) q hs, negative-word r (omega arith)) (both_negative ma mb q r e h);
                }
          ]
    ]
