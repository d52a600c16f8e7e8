-- Casts between the unsigned and the signed types are the signed reading and the complement, and what the library says
-- of an overflow is what the definitions test.
use Rattle.std.proofs.Common.{◌≡◌, ℕ, suc, ◌-◌, ◌*◌, ◌/◌, ◌^◌, ◌<◌, ◌≤◌, ◌≢◌, Bool, true, false, not, eqb, ltb, leb, ℤ, pos, negsuc, ◌-ℤ◌, neg_ℤ, nat_abs, refl, sym, ◌∙◌, div-le_self, arith, le-ltb, lt-ltb, le-leb, eq-eqb, ne_eqb}
use Rattle.std.proofs.lemmas.Int.{ints, of_z-to_z}
use Rattle.std.specs.Bool.{FalseIff}
use Rattle.std.specs.Int.{w32, w64, cast_signed, cast_unsigned, from_bool}
use Rattle.std.specs.Int.RustNames.{FitsSigned}
use native.Mathlib.Decide.{dec_lt, ℕ_discrete}
use borrow.Author.Tests.{lt-leb}
use lib.Signed.{mag, quot_z}
use Rattle.word.specs.Choose.{pick}
use Rattle.word.specs.Extend.{signed_of}
use Rattle.word.proofs.Choices.{pick-self}
use Rattle.word.proofs.Signs.{size-negative}
use Rattle.processor_arithmetic.specs.Flag.{bit_of}
use Rattle.processor_arithmetic.specs.Integer.{signed, outside, complement_of}
use Rattle.processor_arithmetic.specs.Product.{extend64_of}
use Rattle.processor_arithmetic.proofs.Complement.{complement-below}

-- ---- words

pub cast-signed : (a : ℕ) → a < 2 ^ 32 → cast_signed w32 a ≡ signed a
unfolding signed_of
cast-signed a h =
    elim (dec_lt a (2 ^ 31)) [
      | yes l ↦ simp (lt-ltb a (2 ^ 31) l)
      | no l ↦
          let g : 2 ^ 31 ≤ a = omega arith in
          simp (le-ltb a (2 ^ 31) g) (omega (arith, ints))
    ]

-- also of the one quotient that is no signed word
pub cast-word : (z : ℤ) → nat_abs z < 2 ^ 32 → cast_unsigned w32 z ≡ complement_of (2 ^ 32) z
cast-word (pos n) h = omega arith
cast-word (negsuc n) h = omega arith

-- cast to the signed type and back on the way
pub cast-back : (z : ℤ) → nat_abs z < 2 ^ 32 → cast_unsigned w32 (cast_signed w32 (cast_unsigned w32 z)) ≡ complement_of (2 ^ 32) z
cast-back z h =
    let below : cast_unsigned w32 z < 2 ^ 32 = rw (cast-word z h) (complement-below (2 ^ 32) (omega arith) z) in
    of_z-to_z w32 (cast_unsigned w32 z) below ∙ cast-word z h

pub cast-word64 : (z : ℤ) → FitsSigned w64 z → cast_unsigned w64 z ≡ complement_of (2 ^ 64) z
cast-word64 (pos n) f = omega (arith, ints)
cast-word64 (negsuc n) f = omega (arith, ints)

-- a signed word at 64 bits
pub cast-extended : (x : ℕ) → x < 2 ^ 32 → cast_unsigned w64 (signed x) ≡ extend64_of x
unfolding signed_of extend64_of
cast-extended x h =
    elim (dec_lt x (2 ^ 31)) [
      | yes l ↦ simp (lt-ltb x (2 ^ 31) l)
      | no l ↦
          let g : 2 ^ 31 ≤ x = omega arith in
          let e : pos x -ℤ pos (2 * 2 ^ 31) ≡ negsuc (2 ^ 32 - suc x) = omega (arith, ints) in
          simp (le-ltb x (2 ^ 31) g) (rw e (omega arith))
    ]

-- a quotient is no larger than its dividend
pub quotient-size : (x y : ℤ) → nat_abs (quot_z x y) ≤ nat_abs x
quotient-size (pos a) (pos b) = div-le_self a b
quotient-size (pos a) (negsuc b) = rw (size-negative (a / suc b)) (div-le_self a (suc b))
quotient-size (negsuc a) (pos b) = rw (size-negative (suc a / b)) (div-le_self (suc a) b)
quotient-size (negsuc a) (negsuc b) = div-le_self (suc a) (suc b)

-- ---- tests

-- a bool as a number
pub byte-bit : (b : Bool) → from_bool b ≡ bit_of b
byte-bit true = refl
byte-bit false = refl

-- the opposite of a test, as a number
pub bit-not : (b : Bool) → bit_of (not b) ≡ pick b 0 1
bit-not true = refl
bit-not false = refl

-- what the library says of a flag that tells an overflow
met : (b : Bool) (P : Type 0) → FalseIff b P → P → b ≡ false
met true P h p = absurd (h p)
met false P h p = refl

missed : (b : Bool) (P : Type 0) → FalseIff b P → ¬ P → b ≡ true
missed true P h n = refl
missed false P h n = absurd (n h)

pub unless-less : (b : Bool) (m n : ℕ) → FalseIff b (m < n) → b ≡ leb n m
unless-less true m n h = sym (le-leb n m (omega arith))
unless-less false m n h = sym (lt-leb n m h)

pub unless-most : (b : Bool) (m n : ℕ) → FalseIff b (m ≤ n) → b ≡ ltb n m
unless-most true m n h = sym (lt-ltb n m (omega arith))
unless-most false m n h = sym (le-ltb n m h)

-- OV of a sum or a difference: it is no signed word
small : (b : Bool) (z : ℤ) → FalseIff b (FitsSigned w32 z) → b ≡ leb (2 ^ 31) (mag z)
small b z h =
    elim (dec_lt (mag z) (2 ^ 31)) [
      | yes l ↦ met b (FitsSigned w32 z) h (record { sfits = l }) ∙ sym (lt-leb (2 ^ 31) (mag z) l)
      | no l ↦
          let g : 2 ^ 31 ≤ mag z = omega arith in
          missed b (FitsSigned w32 z) h (λ f. l f.sfits) ∙ sym (le-leb (2 ^ 31) (mag z) g)
    ]

pub unless-fits : (b : Bool) (z : ℤ) → FalseIff b (FitsSigned w32 z) → b ≡ outside z
unless-fits b (pos n) h = small b (pos n) h
unless-fits b (negsuc n) h = small b (negsuc n) h ∙ sym (pick-self (leb (2 ^ 31) n))

-- OV of a quotient: 0x80000000 by -1
pub unless-least : (b : Bool) (m n : ℕ) → FalseIff b (n ≡ 2 ^ 32 - 1 → m ≢ 2 ^ 31)
    → b ≡ pick (eqb m (2 ^ 31)) (eqb n (2 ^ 32 - 1)) false
unless-least b m n h =
    let P = n ≡ 2 ^ 32 - 1 → m ≢ 2 ^ 31 in
    elim (ℕ_discrete m (2 ^ 31)) [
      | yes e ↦ elim (ℕ_discrete n (2 ^ 32 - 1)) [
        | yes f ↦ rw (eq-eqb m (2 ^ 31) e, eq-eqb n (2 ^ 32 - 1) f) (missed b P h (λ k. k f e))
        | no f ↦ rw (eq-eqb m (2 ^ 31) e, ne_eqb n (2 ^ 32 - 1) f) (met b P h (λ k. absurd (f k)))
      ]
      | no e ↦ rw (ne_eqb m (2 ^ 31) e) (met b P h (λ _. e))
    ]
