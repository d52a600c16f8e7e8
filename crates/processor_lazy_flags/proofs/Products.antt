-- Products of words: that they fit 64 bits, and the signed product from the unsigned one.
use Rattle.std.proofs.Common.{◌≡◌, ℕ, zero, suc, ◌+◌, ◌-◌, ◌*◌, ◌/◌, ◌%◌, ◌^◌, ◌<◌, ◌≤◌, sym, refl, ap, ◌∙◌, lt_of_le_of_lt, le_of_lt, mod-eq_of_lt, mul_comm, add-mul, mul-le-mul_left, mul-lt-mul_of_pos_right, mul-add, arith, pow_pos, pow-add, le-ltb, lt-ltb, eq-eqb, ne_eqb}
use mathlib.Core.Path.{subst⁻¹}
use native.Mathlib.Decide.{dec_lt}
use Rattle.processor_arithmetic.specs.Product.{extend64_of, overflows_of, product_of}
use Rattle.processor_arithmetic.proofs.Product64.{negative64_of, signs_product_of, product-signs}
use Rattle.processor_arithmetic.specs.Sign.{magnitude_of}

-- the product of two numbers of k bits has at most k + k
pub product-below : (k : ℕ) {a b : ℕ} → a < 2 ^ k → b < 2 ^ k → a * b < 2 ^ (k + k)
product-below k {a} {b} ha hb =
    subst⁻¹ (λ (n : ℕ). a * b < n) (pow-add 2 k k)
    (lt_of_le_of_lt (mul-le-mul_left a (le_of_lt hb)) (mul-lt-mul_of_pos_right ha (pow_pos k)))

-- a bit times a word is a word
pub bit-times : (x b : ℕ) → x < 2 → b < 2 ^ 32 → x * b < 2 ^ 32
bit-times zero b hx hb = omega arith
bit-times (suc zero) b hx hb = omega arith
bit-times (suc (suc x)) b hx hb = absurd (omega arith)

-- numbers of 64 bits that wrap
wrap-negative : (r x y s : ℕ) → r < 2 ^ 64 → s < 2 ^ 64 → x + y ≡ s → (r + s) % 2 ^ 64 ≡ x → r ≡ (2 ^ 64 - y) % 2 ^ 64
wrap-negative r x zero s hr hs e h = omega arith
wrap-negative r x (suc y) s hr hs e h =
    let n : 2 ^ 64 - suc y < 2 ^ 64 = omega arith in
    let k : r ≡ 2 ^ 64 - suc y = omega arith in
    k ∙ sym (mod-eq_of_lt n)

wrap-same : (r z t k x : ℕ) → r < 2 ^ 64 → z < 2 ^ 64 → z + t + k * 2 ^ 64 ≡ 2 ^ 64 + x → (r + t) % 2 ^ 64 ≡ x → r ≡ z
wrap-same r z t k x hr hz e h = omega arith

module _ (a b r : ℕ) (ha : a < 2 ^ 32) (hb : b < 2 ^ 32) (hr : r < 2 ^ 64) where
  -- the two parts of a word's multiple
  parts : (x y : ℕ) → x < 2 ^ 32 → x * y + (2 ^ 32 - x) * y ≡ 2 ^ 32 * y
  parts x y h =
      let e : x + (2 ^ 32 - x) ≡ 2 ^ 32 = omega arith in
      sym (add-mul x (2 ^ 32 - x) y) ∙ ap (λ (n : ℕ). n * y) e

  -- (2 ^ 32 - a) (2 ^ 32 - b) = 2 ^ 64 - 2 ^ 32 (a + b) + a b
  both-parts : (2 ^ 32 - a) * (2 ^ 32 - b) + 2 ^ 32 * a + 2 ^ 32 * b ≡ 2 ^ 64 + a * b
  both-parts =
      let e : 2 ^ 32 - b + b ≡ 2 ^ 32 = omega arith in
      let one : (2 ^ 32 - a) * (2 ^ 32 - b) + (2 ^ 32 - a) * b ≡ (2 ^ 32 - a) * 2 ^ 32 = sym (mul-add (2 ^ 32 - a)
      (2 ^ 32 - b) b) ∙ ap (λ (n : ℕ). (2 ^ 32 - a) * n) e in
      let two : a * b + (2 ^ 32 - a) * b ≡ 2 ^ 32 * b = parts a b ha in
      omega arith

  signs-product : (r + (a / 2 ^ 31 * b + b / 2 ^ 31 * a) % 2 ^ 32 * 2 ^ 32) % 2 ^ 64 ≡ a * b → r ≡ signs_product_of a b
  unfolding signs_product_of magnitude_of negative64_of
  signs-product e =
      elim (dec_lt a (2 ^ 31)) [
        | yes la ↦
            let sa : a / 2 ^ 31 ≡ 0 = omega arith in
            elim (dec_lt b (2 ^ 31)) [
              | yes lb ↦
                  let sb : b / 2 ^ 31 ≡ 0 = omega arith in
                  simp (lt-ltb a (2 ^ 31) la, lt-ltb b (2 ^ 31) lb) (rw (sa, sb) (plain (rw (sa, sb) at e)))
              | no lb ↦
                  let gb : 2 ^ 31 ≤ b = omega arith in
                  let sb : b / 2 ^ 31 ≡ 1 = omega arith in
                  simp (lt-ltb a (2 ^ 31) la, le-ltb b (2 ^ 31) gb) (rw (sa, sb) (second (rw (sa, sb) at e)))
            ]
        | no la ↦
            let ga : 2 ^ 31 ≤ a = omega arith in
            let sa : a / 2 ^ 31 ≡ 1 = omega arith in
            elim (dec_lt b (2 ^ 31)) [
              | yes lb ↦
                  let sb : b / 2 ^ 31 ≡ 0 = omega arith in
                  simp (le-ltb a (2 ^ 31) ga, lt-ltb b (2 ^ 31) lb) (rw (sa, sb) (first (rw (sa, sb) at e)))
              | no lb ↦
                  let gb : 2 ^ 31 ≤ b = omega arith in
                  let sb : b / 2 ^ 31 ≡ 1 = omega arith in
                  simp (le-ltb a (2 ^ 31) ga, le-ltb b (2 ^ 31) gb) (rw (sa, sb) (both ga gb (rw (sa, sb) at e)))
            ]
      ]
    where
      plain : (r + (0 * b + 0 * a) % 2 ^ 32 * 2 ^ 32) % 2 ^ 64 ≡ a * b → r ≡ a * b
      plain h =
          let z : r + (0 * b + 0 * a) % 2 ^ 32 * 2 ^ 32 ≡ r = omega arith in
          sym (mod-eq_of_lt hr) ∙ (rw z at h)

      second : (r + (0 * b + 1 * a) % 2 ^ 32 * 2 ^ 32) % 2 ^ 64 ≡ a * b → r ≡ (2 ^ 64 - a * (2 ^ 32 - b)) % 2 ^ 64
      second h =
          let k : b * a + (2 ^ 32 - b) * a ≡ 2 ^ 32 * a = parts b a hb in
          let t : (0 * b + 1 * a) % 2 ^ 32 * 2 ^ 32 ≡ 2 ^ 32 * a = omega arith in
          let small : 2 ^ 32 * a < 2 ^ 64 = omega arith in
          let sum : a * b + a * (2 ^ 32 - b) ≡ 2 ^ 32 * a = rw (mul_comm a b, mul_comm a (2 ^ 32 - b)) k in
          wrap-negative r (a * b) (a * (2 ^ 32 - b)) (2 ^ 32 * a) hr small sum (rw t at h)

      first : (r + (1 * b + 0 * a) % 2 ^ 32 * 2 ^ 32) % 2 ^ 64 ≡ a * b → r ≡ (2 ^ 64 - (2 ^ 32 - a) * b) % 2 ^ 64
      first h =
          let t : (1 * b + 0 * a) % 2 ^ 32 * 2 ^ 32 ≡ 2 ^ 32 * b = omega arith in
          let small : 2 ^ 32 * b < 2 ^ 64 = omega arith in
          wrap-negative r (a * b) ((2 ^ 32 - a) * b) (2 ^ 32 * b) hr small (parts a b ha) (rw t at h)

      both : 2 ^ 31 ≤ a → 2 ^ 31 ≤ b → (r + (1 * b + 1 * a) % 2 ^ 32 * 2 ^ 32) % 2 ^ 64 ≡ a * b → r ≡ (2 ^ 32 - a) * (2 ^ 32 - b)
      both ga gb h =
          let s : (2 ^ 32 - a) * (2 ^ 32 - b) < 2 ^ 64 = product-below 32 {a = 2 ^ 32 - a} {b = 2 ^ 32 - b} (omega arith) (omega arith) in
          let t = (1 * b + 1 * a) % 2 ^ 32 * 2 ^ 32 in
          let k = (1 * b + 1 * a) / 2 ^ 32 in
          let whole : (1 * b + 1 * a) % 2 ^ 32 * 2 ^ 32 + (1 * b + 1 * a) / 2 ^ 32 * 2 ^ 64 ≡ 2 ^ 32 * a + 2 ^ 32 * b = omega arith in
          wrap-same r ((2 ^ 32 - a) * (2 ^ 32 - b)) t k (a * b) hr s (omega (arith, both-parts, whole)) h

  pub signed_product : (r + (a / 2 ^ 31 * b + b / 2 ^ 31 * a) % 2 ^ 32 * 2 ^ 32) % 2 ^ 64 ≡ a * b → r ≡ product_of a b
  signed_product e = signs-product e ∙ sym (product-signs a b ha hb)

-- two words that are not negative
pub plain-product : (a b : ℕ) → a < 2 ^ 31 → b < 2 ^ 31 → a * b ≡ product_of a b
plain-product a b ha hb =
    let sa : a / 2 ^ 31 ≡ 0 = omega arith in
    let sb : b / 2 ^ 31 ≡ 0 = omega arith in
    let la : a < 2 ^ 32 = omega arith in
    let lb : b < 2 ^ 32 = omega arith in
    let small : a * b < 2 ^ 64 = product-below 32 la lb in
    let none : a * b + (0 * b + 0 * a) % 2 ^ 32 * 2 ^ 32 ≡ a * b = omega arith in
    signed_product a b (a * b) la lb small (rw (sa, sb, none) (mod-eq_of_lt small))

-- OV of a product, by its high word
module _ (high low : ℕ) (h : low < 2 ^ 32) where
  pub overflow-none : high ≡ low / 2 ^ 31 * 4294967295 → overflows_of (high * 2 ^ 32 + low) ≡ 0
  unfolding overflows_of extend64_of
  overflow-none e =
      let l : (high * 2 ^ 32 + low) % 2 ^ 32 ≡ low = omega arith in
      rw l
      (elim (dec_lt low (2 ^ 31)) [
        | yes k ↦
            let w : high * 2 ^ 32 + low ≡ low = omega arith in
            simp (lt-ltb low (2 ^ 31) k, eq-eqb (high * 2 ^ 32 + low) low w)
        | no k ↦
            let g : 2 ^ 31 ≤ low = omega arith in
            let w : high * 2 ^ 32 + low ≡ low + (2 ^ 64 - 2 ^ 32) = omega arith in
            simp (le-ltb low (2 ^ 31) g, eq-eqb (high * 2 ^ 32 + low) (low + (2 ^ 64 - 2 ^ 32)) w)
      ])

  pub overflow-some : (high ≡ low / 2 ^ 31 * 4294967295 → ⊥) → overflows_of (high * 2 ^ 32 + low) ≡ 1
  unfolding overflows_of extend64_of
  overflow-some n =
      let l : (high * 2 ^ 32 + low) % 2 ^ 32 ≡ low = omega arith in
      rw l
      (elim (dec_lt low (2 ^ 31)) [
        | yes k ↦
            let w : high * 2 ^ 32 + low ≡ low → ⊥ = λ e. n (omega arith) in
            simp (lt-ltb low (2 ^ 31) k, ne_eqb (high * 2 ^ 32 + low) low w)
        | no k ↦
            let g : 2 ^ 31 ≤ low = omega arith in
            let w : high * 2 ^ 32 + low ≡ low + (2 ^ 64 - 2 ^ 32) → ⊥ = λ e. n (omega arith) in
            simp (le-ltb low (2 ^ 31) g, ne_eqb (high * 2 ^ 32 + low) (low + (2 ^ 64 - 2 ^ 32)) w)
      ])
