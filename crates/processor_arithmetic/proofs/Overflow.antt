-- When a signed sum of words is not a signed word: where the sign of the wrapped sum is neither part's. A difference a - b is
-- what b is added to for a, and overflows where that sum does.
use Rattle.std.proofs.Common.{◌≡◌, ℕ, zero, suc, ◌+◌, ◌-◌, ◌*◌, ◌/◌, ◌%◌, ◌^◌, ◌<◌, ◌≤◌, ◌+ℤ◌, ◌-ℤ◌, sym, ◌∙◌, ap₂, arith, eq-eqb, ne_eqb}
use native.Mathlib.Decide.{ℕ_discrete}
use lib.Bits.{bit_and, bit_xor, and_shr, xor_shr}
use Rattle.processor_arithmetic.specs.Flag.{bit_of}
use Rattle.processor_arithmetic.specs.Integer.{signed, outside}
use Rattle.processor_arithmetic.proofs.Bias.{biased_of, outside_of}
use Rattle.processor_arithmetic.proofs.Biased.{bias-small, bias-mod, difference-mod, sum-biased, difference-biased}
use Rattle.processor_arithmetic.proofs.Reading.{outside-bit}

-- two binary digits p and q, which with or without a carry in make the digit s and the carry c
signs : (p q s c : ℕ) → p < 2 → q < 2 → s < 2 → p + q ≤ s + 2 * c → s + 2 * c ≤ p + q + 1
    → bit_and (bit_xor p s) (bit_xor q s) ≡ (p + q + s + c) % 2
signs zero zero zero c hp hq hs h k = omega arith
signs zero zero (suc zero) c hp hq hs h k = omega arith
signs zero (suc zero) zero c hp hq hs h k = omega arith
signs zero (suc zero) (suc zero) c hp hq hs h k = omega arith
signs (suc zero) zero zero c hp hq hs h k = omega arith
signs (suc zero) zero (suc zero) c hp hq hs h k = omega arith
signs (suc zero) (suc zero) zero c hp hq hs h k = omega arith
signs (suc zero) (suc zero) (suc zero) c hp hq hs h k = omega arith
signs zero zero (suc (suc s)) c hp hq hs h k = omega arith
signs zero (suc zero) (suc (suc s)) c hp hq hs h k = omega arith
signs (suc zero) zero (suc (suc s)) c hp hq hs h k = omega arith
signs (suc zero) (suc zero) (suc (suc s)) c hp hq hs h k = omega arith
signs zero (suc (suc q)) s c hp hq hs h k = omega arith
signs (suc zero) (suc (suc q)) s c hp hq hs h k = omega arith
signs (suc (suc p)) q s c hp hq hs h k = omega arith

-- the bit of the words is that of their signs
sign_bit : (a b s : ℕ) → bit_and (bit_xor a s) (bit_xor b s) / 2 ^ 31
    ≡ bit_and (bit_xor (a / 2 ^ 31) (s / 2 ^ 31)) (bit_xor (b / 2 ^ 31) (s / 2 ^ 31))
sign_bit a b s = and_shr (bit_xor a s) (bit_xor b s) 31 ∙ ap₂ bit_and (xor_shr a s 31) (xor_shr b s 31)

-- the signed words are one of three ranges of 2 ^ 32 numbers, the middle one
outside-even : (t : ℕ) → t < 2 ^ 33 → outside_of t ≡ ((t + 2 ^ 31) / 2 ^ 32 + 1) % 2
unfolding outside_of
outside-even t h =
    elim (ℕ_discrete ((t + 2 ^ 31) / 2 ^ 32) 1) [
      | yes e ↦ simp (eq-eqb ((t + 2 ^ 31) / 2 ^ 32) 1 e) (omega arith)
      | no e ↦ simp (ne_eqb ((t + 2 ^ 31) / 2 ^ 32) 1 e) (omega arith)
    ]

-- a word's signed reading is 2 ^ 32 less where its sign is 1
bias-sign : (a : ℕ) → a < 2 ^ 32 → biased_of a + 2 ^ 32 * (a / 2 ^ 31) ≡ a + 2 ^ 31
unfolding biased_of
bias-sign a h = omega arith

-- the range of a signed sum t, by the parts' signs p and q, the wrapped sum s and its carry c
sum-range : (a b s t p q c : ℕ) → s < 2 ^ 32 → s + 2 ^ 32 * c ≡ a + b → t + 2 ^ 32 * (p + q) ≡ a + b + 2 ^ 32
    → (p + q + s / 2 ^ 31 + c) % 2 ≡ ((t + 2 ^ 31) / 2 ^ 32 + 1) % 2
sum-range a b s t p q c h e k =
    let m : (t + 2 ^ 31) / 2 ^ 32 + p + q ≡ s / 2 ^ 31 + c + 1 = omega arith in
    omega arith

sum-overflow-bit : (a b s : ℕ) → a < 2 ^ 32 → b < 2 ^ 32 → s ≡ (a + b) % 2 ^ 32
    → bit_and (bit_xor a s) (bit_xor b s) / 2 ^ 31 ≡ outside_of (biased_of a + biased_of b)
sum-overflow-bit a b s ha hb e =
    let p = a / 2 ^ 31 in
    let q = b / 2 ^ 31 in
    let c = (a + b) / 2 ^ 32 in
    let t = biased_of a + biased_of b in
    sign_bit a b s
    ∙ signs p q (s / 2 ^ 31) c (omega arith) (omega arith) (omega arith) (omega arith) (omega arith)
    ∙ sum-range a b s t p q c (omega arith) (omega arith) (omega (arith, bias-sign a ha, bias-sign b hb))
    ∙ sym (outside-even t (omega (arith, bias-small a, bias-small b)))

-- a difference below the signed words is of a sum above them, and the other way round
opposite : (x y : ℕ) → x < 2 ^ 32 → y < 2 ^ 32
    → ((x + (2 ^ 32 - y) + 2 ^ 31) % 2 ^ 32 + y + 2 ^ 31) / 2 ^ 32 + (x + (2 ^ 32 - y) + 2 ^ 31) / 2 ^ 32 ≡ 2
opposite x y hx hy = omega arith

difference-overflow-sum : (a b : ℕ) → a < 2 ^ 32 → b < 2 ^ 32
    → outside_of (biased_of ((a + (2 ^ 32 - b)) % 2 ^ 32) + biased_of b) ≡ outside_of (biased_of a + (2 ^ 32 - biased_of b))
difference-overflow-sum a b ha hb =
    let x = biased_of a in
    let y = biased_of b in
    let hx : x < 2 ^ 32 = bias-small a in
    let hy : y < 2 ^ 32 = bias-small b in
    rw (bias-mod (a + (2 ^ 32 - b)), ← difference-mod a b hb)
    (outside-even ((x + (2 ^ 32 - y) + 2 ^ 31) % 2 ^ 32 + y) (omega arith)
    ∙ omega (arith, opposite x y hx hy)
    ∙ sym (outside-even (x + (2 ^ 32 - y)) (omega arith)))

-- the same over the whole numbers
pub sum-outside : (a b : ℕ) → a < 2 ^ 32 → b < 2 ^ 32
    → outside_of (biased_of a + biased_of b) ≡ bit_of (outside (signed a +ℤ signed b))
sum-outside a b ha hb = outside-bit (biased_of a + biased_of b) (sum-biased a b ha hb)

pub difference-outside : (a b : ℕ) → a < 2 ^ 32 → b < 2 ^ 32
    → outside_of (biased_of a + (2 ^ 32 - biased_of b)) ≡ bit_of (outside (signed a -ℤ signed b))
difference-outside a b ha hb = outside-bit (biased_of a + (2 ^ 32 - biased_of b)) (difference-biased a b ha hb)

-- OV of a sum, as the code tests it
pub sum-overflow-signs : (a b s : ℕ) → a < 2 ^ 32 → b < 2 ^ 32 → s ≡ (a + b) % 2 ^ 32
    → bit_and (bit_xor a s) (bit_xor b s) / 2 ^ 31 ≡ bit_of (outside (signed a +ℤ signed b))
sum-overflow-signs a b s ha hb e = sum-overflow-bit a b s ha hb e ∙ sum-outside a b ha hb

-- OV of a difference is that of its sum with what was taken away
pub difference-sum-outside : (a b : ℕ) → a < 2 ^ 32 → b < 2 ^ 32
    → bit_of (outside (signed ((a + (2 ^ 32 - b)) % 2 ^ 32) +ℤ signed b)) ≡ bit_of (outside (signed a -ℤ signed b))
difference-sum-outside a b ha hb =
    sym (sum-outside ((a + (2 ^ 32 - b)) % 2 ^ 32) b (omega arith) hb)
    ∙ difference-overflow-sum a b ha hb
    ∙ difference-outside a b ha hb
