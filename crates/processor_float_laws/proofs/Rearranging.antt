-- XB, XH, REV and MPYHW. Assumes nothing.
use Prim.Native.Nat.{ℕ, zero, suc, ◌+◌, ◌-◌, ◌*◌, ◌/◌, ◌%◌, ◌^◌, ◌<◌, ◌≤◌}
use mathlib.Core.Path.{◌≡◌, refl, sym, subst, ◌∙◌, ap}
use native.Mathlib.Decide.{dec_lt}
use native.Mathlib.Nat.{div-one, mod-eq_of_lt}
use native.Mathlib.Omega.{arith}
use lib.IntN.{ℤ, pos, neg_ℤ, ◌+ℤ◌, ◌*ℤ◌}
use lib.Pow.{high, low, shr-shr, mod-mod-pow, field}
use lib.Signed.{shr_z}
use Rattle.word.specs.Bit.{bit_at}
use Rattle.word.specs.Extend.{extend_of, signed_of}
use Rattle.word.specs.Floors.{mod_z}
use Rattle.word.proofs.Integers.{is-moved, is-scaled}
use Rattle.word.proofs.Signs.{opposite-times}
use Rattle.word.proofs.Floors.{is-mod}
use Rattle.word.proofs.Readings.{reading-low, reading-high}
use Rattle.word.proofs.Extended.{extend-low, extend-high}
use Rattle.processor_arithmetic.proofs.Bits.{same-below}
use Rattle.processor_float.specs.Nintendo.{xb_of, xh_of, reversed_of, rev_of, mpyhw_of}
use Rattle.processor_float.proofs.Reversal.{reversed-small}
use Rattle.processor_float_laws.specs.Rearranged.{byte_at, BytesExchanged, HalvesExchanged, Reversed, Multiplied}

-- a number of two bytes, p above q, below H
module _ (H p q : ℕ) (hp : p < 256) (hq : q < 256) where
  abbrev X : ℕ
  X = H * 65536 + p * 256 + q

  lowest : (H * 65536 + p * 256 + q) % 256 ≡ q
  lowest = omega arith

  rest : (H * 65536 + p * 256 + q) / 256 ≡ H * 256 + p
  rest = omega arith

  second : (H * 65536 + p * 256 + q) / 256 % 256 ≡ p
  second = ap (λ (n : ℕ). n % 256) rest ∙ omega arith

  upper : (H * 65536 + p * 256 + q) / 65536 ≡ H
  upper = omega arith

  third : (H * 65536 + p * 256 + q) / 65536 % 256 ≡ H % 256
  third = ap (λ (n : ℕ). n % 256) upper

  fourth : (H * 65536 + p * 256 + q) / 16777216 % 256 ≡ H / 256 % 256
  fourth = ap (λ (n : ℕ). n % 256) (sym (shr-shr X 16 8) ∙ ap (λ (n : ℕ). n / 256) upper)

plain_byte : (w : ℕ) → w / 1 % 256 ≡ w % 256
plain_byte w = ap (λ (n : ℕ). n % 256) (div-one w)

pub bytes-exchanged : (w : ℕ) → w < 2 ^ 32 → BytesExchanged w
unfolding xb_of
bytes-exchanged w h =
    let H = w / 65536 in
    let p : w % 256 < 256 = omega arith in
    let q : w / 256 % 256 < 256 = omega arith in
    record {
      byte0 = plain_byte _ ∙ lowest H (w % 256) (w / 256 % 256) p q;
      byte1 = second H (w % 256) (w / 256 % 256) p q ∙ sym (plain_byte w);
      byte2 = third H (w % 256) (w / 256 % 256) p q;
      byte3 = fourth H (w % 256) (w / 256 % 256) p q ∙ ap (λ (n : ℕ). n % 256) (shr-shr w 16 8);
    }

pub halves-exchanged : (w : ℕ) → w < 2 ^ 32 → HalvesExchanged w
unfolding xh_of
halves-exchanged w h =
    let H = w % 65536 in
    let L = w / 65536 in
    let p : w / 65536 / 256 < 256 = omega arith in
    let q : w / 65536 % 256 < 256 = omega arith in
    let e : w % 65536 * 65536 + w / 65536 ≡ w % 65536 * 65536 + w / 65536 / 256 * 256 + w / 65536 % 256 = omega arith in
    record {
      byte0 = plain_byte _ ∙ ap (λ (n : ℕ). n % 256) e ∙ lowest H (L / 256) (L % 256) p q;
      byte1 = ap (λ (n : ℕ). n / 256 % 256) e ∙ second H (L / 256) (L % 256) p q ∙ sym (mod-eq_of_lt p) ∙ ap (λ (n : ℕ). n % 256) (shr-shr w 16 8);
      byte2 = ap (λ (n : ℕ). n / 65536 % 256) e ∙ third H (L / 256) (L % 256) p q ∙ mod-mod-pow w 8 8 ∙ sym (plain_byte w);
      byte3 = ap (λ (n : ℕ). n / 16777216 % 256) e ∙ fourth H (L / 256) (L % 256) p q ∙ ap (λ (n : ℕ). n % 256) (field w 8 8) ∙ omega arith;
    }

reversed-bit : (n x i : ℕ) → i < n → bit_at i (reversed_of n x) ≡ bit_at (n - 1 - i) x
unfolding reversed_of
reversed-bit zero x i h = absurd (omega arith)
reversed-bit (suc n) x i h =
    let r = reversed_of n (x / 2) in
    let small : reversed_of n (x / 2) < 2 ^ n = reversed-small n (x / 2) in
    elim (dec_lt i n) [
      | yes l ↦
          let s : 1 + (n - 1 - i) ≡ suc n - 1 - i = omega arith in
          same-below (x % 2 * 2 ^ n + r) r i n (low (x % 2) n small ∙ sym (mod-eq_of_lt small)) l
          ∙ reversed-bit n (x / 2) i l
          ∙ ap (λ (y : ℕ). y % 2) (shr-shr x 1 (n - 1 - i) ∙ ap (λ (j : ℕ). x / 2 ^ j) s)
      | no l ↦
          let e : i ≡ n = omega arith in
          let z : suc n - 1 - i ≡ 0 = omega arith in
          ap (λ (j : ℕ). (x % 2 * 2 ^ n + r) / 2 ^ j % 2) e
          ∙ ap (λ (y : ℕ). y % 2) (high (x % 2) n small)
          ∙ omega arith
          ∙ sym (ap (λ (j : ℕ). x / 2 ^ j % 2) z)
    ]

pub reversed : Reversed
unfolding rev_of
reversed w i h = reversed-bit 32 w i h

-- ---- MPYHW

-- the product mod 2 ^ 32 is the remainder of the product over the whole numbers
product-rest : (a x : ℕ) → x < 2 ^ 17 → pos (a * extend_of 65536 x % 2 ^ 32) ≡ mod_z (pos a *ℤ signed_of 65536 x) (2 ^ 32)
product-rest a x h =
    elim (dec_lt x 65536) [
      | yes l ↦
          rw (extend-low 65536 x l)
          (is-mod (2 ^ 32) 0 (omega arith) (is-moved (is-scaled a (reading-low 65536 x l)) (omega arith)))
      | no l ↦
          let g : 65536 ≤ x = omega arith in
          rw (extend-high 65536 x g)
          (is-mod (2 ^ 32) a (omega arith) (is-scaled a (is-moved (reading-high 65536 x g) (omega arith))))
    ]

pub multiplied : Multiplied
unfolding mpyhw_of mod_z
multiplied a b =
    let w = pos a *ℤ signed_of 65536 (b % 2 ^ 17) in
    let q = shr_z w (2 ^ 32) in
    (neg_ℤ q, product-rest a (b % 2 ^ 17) (omega arith) ∙ ap (λ (z : ℤ). w +ℤ z) (sym (opposite-times q (2 ^ 32))))
