-- A product at 64 bits: its signed reading is the product of the signed readings, and when it is the sign extension of
-- its low word. What the laws of Multiplied rest on.
use Rattle.std.proofs.Common.{◌≡◌, ℕ, zero, suc, ◌+◌, ◌-◌, ◌*◌, ◌%◌, ◌^◌, ◌<◌, ◌≤◌, eqb, leb, ◌≢◌, pos, ◌*ℤ◌, neg_ℤ, sym, refl, ap, ◌∙◌, mul-le-mul, arith, le-ltb, lt-ltb, eq-eqb, ne_eqb, le-leb}
use native.Mathlib.Decide.{dec_lt, ℕ_discrete}
use borrow.Author.Tests.{lt-leb}
use Rattle.word.specs.Choose.{pick}
use Rattle.word.specs.Extend.{signed_of}
use Rattle.processor_arithmetic.specs.Flag.{bit_of, sign_of}
use Rattle.processor_arithmetic.specs.Sign.{magnitude_of}
use Rattle.processor_arithmetic.specs.Product.{extend64_of, overflows_of, product_of}
use Rattle.processor_arithmetic.specs.Integer.{signed, signed64, outside, complement_of}
use Rattle.processor_arithmetic.proofs.Complement.{complement-below, complement-signed64}
use Rattle.word.proofs.Signs.{times-negative, negative-times, negative-negative}
use Rattle.processor_arithmetic.proofs.Reading.{magnitude-small, signed_low, signed_high, plain-reading, negative-reading}
use Rattle.processor_arithmetic.proofs.Bits.{bit-small}

-- the 64-bit number of -m
unfoldable pub negative64_of : ℕ → ℕ
negative64_of m = (2 ^ 64 - m) % 2 ^ 64

-- the product as the code makes it: that of the magnitudes, negative where the signs differ
unfoldable pub signs_product_of : ℕ → ℕ → ℕ
signs_product_of a b =
    let m = magnitude_of a * magnitude_of b in
    pick (eqb (sign_of a) (sign_of b)) m (negative64_of m)

pub product_small : (a b : ℕ) → magnitude_of a * magnitude_of b ≤ 2 ^ 62
product_small a b = mul-le-mul (magnitude-small a) (magnitude-small b)

pub negative64 : (m : ℕ) → m ≤ 2 ^ 62 → signed64 (negative64_of m) ≡ neg_ℤ (pos m)
unfolding negative64_of signed_of
negative64 zero h = refl
negative64 (suc m) h =
    let e : (2 ^ 64 - suc m) % 2 ^ 64 ≡ 2 ^ 64 - suc m = omega arith in
    rw e (negative-reading (2 ^ 63) (suc m) (omega arith) (omega arith))

same-signs : (a b : ℕ) → sign_of a ≡ sign_of b → signs_product_of a b ≡ magnitude_of a * magnitude_of b
unfolding signs_product_of
same-signs a b e = simp (eq-eqb (sign_of a) (sign_of b) e)

other-signs : (a b : ℕ) → sign_of a ≢ sign_of b → signs_product_of a b ≡ negative64_of (magnitude_of a * magnitude_of b)
unfolding signs_product_of
other-signs a b e = simp (ne_eqb (sign_of a) (sign_of b) e)

-- read signed, it is the product of the signed readings
signs-signed : (a b : ℕ) → a < 2 ^ 32 → b < 2 ^ 32 → signed64 (signs_product_of a b) ≡ signed a *ℤ signed b
signs-signed a b ha hb =
    elim (dec_lt a (2 ^ 31)) [
      | yes la ↦
          elim (dec_lt b (2 ^ 31)) [
            | yes lb ↦
                rw (same-signs a b (omega arith), signed_low a la, signed_low b lb)
                (plain-reading (2 ^ 63) (magnitude_of a * magnitude_of b) (omega (arith, product_small a b)))
            | no lb ↦
                let gb : 2 ^ 31 ≤ b = omega arith in
                rw (other-signs a b (omega arith), signed_low a la, signed_high b hb gb)
                (negative64 (magnitude_of a * magnitude_of b) (product_small a b) ∙ sym (times-negative (magnitude_of a) (magnitude_of b)))
          ]
      | no la ↦
          let ga : 2 ^ 31 ≤ a = omega arith in
          elim (dec_lt b (2 ^ 31)) [
            | yes lb ↦
                rw (other-signs a b (omega arith), signed_high a ha ga, signed_low b lb)
                (negative64 (magnitude_of a * magnitude_of b) (product_small a b) ∙ sym (negative-times (magnitude_of a) (magnitude_of b)))
            | no lb ↦
                let gb : 2 ^ 31 ≤ b = omega arith in
                rw (same-signs a b (omega arith), signed_high a ha ga, signed_high b hb gb)
                (plain-reading (2 ^ 63) (magnitude_of a * magnitude_of b) (omega (arith, product_small a b))
                ∙ sym (negative-negative (magnitude_of a) (magnitude_of b)))
          ]
    ]

signs-word : (a b : ℕ) → signs_product_of a b < 2 ^ 64
signs-word a b =
    elim (ℕ_discrete (sign_of a) (sign_of b)) [
      | yes e ↦ rw (same-signs a b e) (omega (arith, product_small a b))
      | no e ↦ rw (other-signs a b e) (negative-word (magnitude_of a * magnitude_of b))
    ]
  where
    negative-word : (m : ℕ) → negative64_of m < 2 ^ 64
    negative-word m = unfold negative64_of in omega arith

-- so it is the definition's
pub product-signs : (a b : ℕ) → a < 2 ^ 32 → b < 2 ^ 32 → product_of a b ≡ signs_product_of a b
unfolding product_of
product-signs a b ha hb =
    ap (complement_of (2 ^ 64)) (sym (signs-signed a b ha hb)) ∙ complement-signed64 (signs_product_of a b) (signs-word a b)

-- the signed product at 64 bits, read signed, is the product of the signed readings
pub product-signed : (a b : ℕ) → a < 2 ^ 32 → b < 2 ^ 32 → signed64 (product_of a b) ≡ signed a *ℤ signed b
product-signed a b ha hb = ap signed64 (product-signs a b ha hb) ∙ signs-signed a b ha hb

pub product-word : (a b : ℕ) → product_of a b < 2 ^ 64
unfolding product_of
product-word a b = complement-below (2 ^ 64) (omega arith) (signed a *ℤ signed b)

pub extend-low : (x : ℕ) → x < 2 ^ 31 → extend64_of x ≡ x
unfolding extend64_of
extend-low x h = simp (lt-ltb x (2 ^ 31) h)

pub extend-high : (x : ℕ) → 2 ^ 31 ≤ x → extend64_of x ≡ x + (2 ^ 64 - 2 ^ 32)
unfolding extend64_of
extend-high x h = simp (le-ltb x (2 ^ 31) h)

pub not_extended : (w : ℕ) → 2 ^ 31 ≤ w → w < 2 ^ 64 - 2 ^ 31 → w ≢ extend64_of (w % 2 ^ 32)
not_extended w h k e =
    elim (dec_lt (w % 2 ^ 32) (2 ^ 31)) [
      | yes l ↦ omega (arith, extend-low (w % 2 ^ 32) l)
      | no l ↦
          let g : 2 ^ 31 ≤ w % 2 ^ 32 = omega arith in
          omega (arith, extend-high (w % 2 ^ 32) g)
    ]

-- OV of a product of 64 bits: read signed, it is not a signed word
pub product-overflow : (w : ℕ) → w < 2 ^ 64 → overflows_of w ≡ bit_of (outside (signed64 w))
unfolding overflows_of signed_of
product-overflow w h =
    elim (dec_lt w (2 ^ 63)) [
      | yes l ↦ positive w l
      | no l ↦ negative w h (omega arith)
    ]
  where
    positive : (w : ℕ) → w < 2 ^ 63 → overflows_of w ≡ bit_of (outside (signed64 w))
    positive w l =
        elim (dec_lt w (2 ^ 31)) [
          | yes s ↦
              let e : w % 2 ^ 32 ≡ w = omega arith in
              simp (lt-ltb w (2 ^ 63) l, lt-leb (2 ^ 31) w s)
              (simp (eq-eqb w (extend64_of (w % 2 ^ 32)) (sym (ap extend64_of e ∙ extend-low w s))))
          | no s ↦
              let g : 2 ^ 31 ≤ w = omega arith in
              simp (lt-ltb w (2 ^ 63) l, le-leb (2 ^ 31) w g)
              (simp (ne_eqb w (extend64_of (w % 2 ^ 32)) (not_extended w g (omega arith))))
        ]

    negative : (w : ℕ) → w < 2 ^ 64 → 2 ^ 63 ≤ w → overflows_of w ≡ bit_of (outside (signed64 w))
    negative w h l =
        elim (dec_lt w (2 ^ 64 - 2 ^ 31)) [
          | yes s ↦
              let k : 2 ^ 31 - 1 < 2 ^ 64 - suc w = omega arith in
              simp (le-ltb w (2 ^ 63) l, lt-ltb w (2 ^ 64) h, lt-ltb (2 ^ 31 - 1) (2 ^ 64 - suc w) k)
              (simp (ne_eqb w (extend64_of (w % 2 ^ 32)) (not_extended w (omega arith) s)))
          | no s ↦
              let k : 2 ^ 64 - suc w ≤ 2 ^ 31 - 1 = omega arith in
              let g : 2 ^ 31 ≤ w % 2 ^ 32 = omega arith in
              let e : w ≡ w % 2 ^ 32 + (2 ^ 64 - 2 ^ 32) = omega arith in
              simp (le-ltb w (2 ^ 63) l, lt-ltb w (2 ^ 64) h, le-ltb (2 ^ 31 - 1) (2 ^ 64 - suc w) k)
              (simp (eq-eqb w (extend64_of (w % 2 ^ 32)) (e ∙ sym (extend-high (w % 2 ^ 32) g))))
        ]

pub unsigned_small : (a b : ℕ) → a < 2 ^ 32 → b < 2 ^ 32 → a * b ≤ (2 ^ 32 - 1) * (2 ^ 32 - 1)
unsigned_small a b ha hb = mul-le-mul {n₂ = 2 ^ 32 - 1} {m₂ = 2 ^ 32 - 1} (omega arith) (omega arith)

pub unsigned-word : (a b : ℕ) → a < 2 ^ 32 → b < 2 ^ 32 → a * b < 2 ^ 64
unsigned-word a b ha hb = omega (arith, unsigned_small a b ha hb)

pub unsigned-overflow : (w : ℕ) → w ≤ (2 ^ 32 - 1) * (2 ^ 32 - 1) → overflows_of w ≡ bit_of (leb (2 ^ 31) w)
unfolding overflows_of
unsigned-overflow w h =
    elim (dec_lt w (2 ^ 31)) [
      | yes s ↦
          let e : w % 2 ^ 32 ≡ w = omega arith in
          simp (lt-leb (2 ^ 31) w s) (simp (eq-eqb w (extend64_of (w % 2 ^ 32)) (sym (ap extend64_of e ∙ extend-low w s))))
      | no s ↦
          let g : 2 ^ 31 ≤ w = omega arith in
          simp (le-leb (2 ^ 31) w g) (simp (ne_eqb w (extend64_of (w % 2 ^ 32)) (not_extended w g (omega arith))))
    ]

pub overflow-small : (w : ℕ) → w < 2 ^ 64 → overflows_of w < 2
overflow-small w h = rw (product-overflow w h) (bit-small (outside (signed64 w)))
