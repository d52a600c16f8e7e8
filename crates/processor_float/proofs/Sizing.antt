-- The size of a word to a whole number, by its exponent's field e: from 150 on it is whole; below 126 it is less than a
-- half. So the word alone tells which sizes reach 2 ^ 31. Assumes nothing.
use Rattle.std.proofs.Common.{◌≡◌, ℕ, zero, suc, ◌+◌, ◌-◌, ◌*◌, ◌/◌, ◌%◌, ◌^◌, ◌<◌, ◌≤◌, Bool, true, false, ◌||◌, eqb, ltb, leb, ℤ, negsuc, sym, ap, ◌∙◌, subst, mul_assoc, mul_comm, mul-le-mul, mul-le-mul_left, pow-suc, mul-one, div-one, mul-div_cancel, arith, pow_pos, pow_mono, pow-add, shl_lt, shr_lt, le-ltb, lt-ltb, eq-eqb, ne_eqb, le-leb}
use Prim.Native.Nat.{compare}
use native.Mathlib.Decide.{dec_lt}
use native.Mathlib.Nat.{div-eq_of_lt, le-suc}
use borrow.Author.Tests.{lt-leb}
use lib.Pow.{mod-pow-add}
use lib.Ieee.Fits.{nearest-le}
use lib.Ieee.Nearest.{closest, closest_same, div_same}
use Rattle.word.specs.Choose.{pick}
use Rattle.processor_arithmetic.specs.Integer.{outside}
use Rattle.processor_arithmetic.proofs.Reading.{outside-opposite}
use Rattle.processor_float.specs.Operand.{exponent_of, digits_of, units_in, units_of, signed_by}
use Rattle.processor_float.specs.Conversion.{nearest_size_of, truncated_size_of, outside_of}
use Rattle.processor_float.proofs.Closest.{closest-less, closest-none}

-- ---- units

pub units-at : (e t : ℕ) → 0 < e → units_in e t ≡ (2 ^ 23 + t) * 2 ^ (e - 1)
units-at zero t h = absurd (omega arith)
units-at (suc x) t h =
    let k : suc x - 1 ≡ x = omega arith in
    ap (λ (j : ℕ). (2 ^ 23 + t) * 2 ^ j) (sym k)

-- fewer than 2 ^ (24 + k) units
pub units-below : (e t k : ℕ) → t < 2 ^ 23 → e ≤ suc k → units_in e t < 2 ^ (24 + k)
units-below zero t k h l = omega (arith, pow_mono {i = 23} {j = 24 + k} (omega arith))
units-below (suc x) t k h l = omega (arith, shl_lt {a = 2 ^ 23 + t} 24 x (omega arith), pow_mono {i = 24 + x} {j = 24 + k} (omega arith))

-- a whole number
whole : (e t : ℕ) → 150 ≤ e → units_in e t ≡ (2 ^ 23 + t) * 2 ^ (e - 150) * 2 ^ 149
whole e t h =
    let k : e - 1 ≡ e - 150 + 149 = omega arith in
    units-at e t (omega arith)
    ∙ ap (λ (j : ℕ). (2 ^ 23 + t) * 2 ^ j) k
    ∙ ap (λ (j : ℕ). (2 ^ 23 + t) * j) (pow-add 2 (e - 150) 149)
    ∙ sym (mul_assoc (2 ^ 23 + t) (2 ^ (e - 150)) (2 ^ 149))

-- a fraction of 2 ^ (150 - e)
part : (e t : ℕ) → 0 < e → e ≤ 150 → units_in e t * 2 ^ (150 - e) ≡ (2 ^ 23 + t) * 2 ^ 149
part e t h l =
    let k : e - 1 + (150 - e) ≡ 149 = omega arith in
    ap (λ (j : ℕ). j * 2 ^ (150 - e)) (units-at e t h)
    ∙ mul_assoc (2 ^ 23 + t) (2 ^ (e - 1)) (2 ^ (150 - e))
    ∙ ap (λ (j : ℕ). (2 ^ 23 + t) * j) (sym (pow-add 2 (e - 1) (150 - e)) ∙ ap (λ (j : ℕ). 2 ^ j) k)

double-below : (u k : ℕ) → u < 2 ^ k → u * 2 < 2 ^ suc k
double-below u k h = omega (arith, pow-suc 2 k)

small-enough : (n q : ℕ) → n ≤ suc q → q < 2 ^ 23 → n < 2 ^ 31
small-enough n q h l = omega arith

past-limit : (n t : ℕ) → 0 < t → n ≡ (2 ^ 23 + t) * 2 ^ 8 → 2 ^ 31 < n
past-limit n t h e = omega arith

-- the field and the digits make up the word without its sign
pub fields : (w : ℕ) → w % 2 ^ 31 ≡ exponent_of w * 2 ^ 23 + digits_of w
fields w = mod-pow-add w 8 23

-- ---- the nearest whole number, and the one without the fraction

module _ (w : ℕ) where
  abbrev pub significand_of : ℕ
  significand_of = 2 ^ 23 + digits_of w

  pub nearest-part : 0 < exponent_of w → exponent_of w ≤ 150 → nearest_size_of w ≡ closest significand_of (2 ^ (150 - exponent_of w))
  unfolding nearest_size_of units_of
  nearest-part h l =
      closest_same (units_of w) (2 ^ 149) significand_of (2 ^ (150 - exponent_of w)) (pow_pos 149) (pow_pos (150 - exponent_of w))
      (part (exponent_of w) (digits_of w) h l)

  pub truncated-part : 0 < exponent_of w → exponent_of w ≤ 150 → truncated_size_of w ≡ significand_of / 2 ^ (150 - exponent_of w)
  unfolding truncated_size_of units_of
  truncated-part h l =
      div_same (units_of w) (2 ^ 149) significand_of (2 ^ (150 - exponent_of w)) (pow_pos 149) (pow_pos (150 - exponent_of w))
      (part (exponent_of w) (digits_of w) h l)

  pub nearest-whole : 150 ≤ exponent_of w → nearest_size_of w ≡ significand_of * 2 ^ (exponent_of w - 150)
  unfolding nearest_size_of units_of
  nearest-whole h =
      let n = significand_of * 2 ^ (exponent_of w - 150) in
      closest_same (units_of w) (2 ^ 149) n 1 (pow_pos 149) (omega arith) (mul-one (units_of w) ∙ whole (exponent_of w) (digits_of w) h)
      ∙ closest-less n 1 (omega arith)
      ∙ div-one n

  pub truncated-whole : 150 ≤ exponent_of w → truncated_size_of w ≡ significand_of * 2 ^ (exponent_of w - 150)
  unfolding truncated_size_of units_of
  truncated-whole h =
      ap (λ (u : ℕ). u / 2 ^ 149) (whole (exponent_of w) (digits_of w) h)
      ∙ mul-div_cancel (significand_of * 2 ^ (exponent_of w - 150)) (pow_pos 149)

  pub nearest-none : exponent_of w < 126 → nearest_size_of w ≡ 0
  unfolding nearest_size_of units_of
  nearest-none h = closest-none (units_of w) (2 ^ 149) (double-below (units_of w) 148 (units-below (exponent_of w) (digits_of w) 124 (omega arith) (omega arith)))

  pub truncated-none : exponent_of w < 127 → truncated_size_of w ≡ 0
  unfolding truncated_size_of units_of
  truncated-none h = div-eq_of_lt (units-below (exponent_of w) (digits_of w) 125 (omega arith) (omega arith))

  nearest-least : nearest_size_of w ≤ suc (units_of w / 2 ^ 149)
  unfolding nearest_size_of
  nearest-least = nearest-le (units_of w / 2 ^ 149) (compare (units_of w % 2 ^ 149 * 2) (2 ^ 149))

  truncated-least : truncated_size_of w ≤ suc (units_of w / 2 ^ 149)
  unfolding truncated_size_of
  truncated-least = le-suc (units_of w / 2 ^ 149)

-- ---- which sizes reach 2 ^ 31

-- 0x4F000000 is 2 ^ 31
pub record Reaches (w n : ℕ) : Type 0 where
  pub small : w % 2 ^ 31 < 0x4F000000 → n < 2 ^ 31
  pub limit : w % 2 ^ 31 ≡ 0x4F000000 → n ≡ 2 ^ 31
  pub large : 0x4F000000 < w % 2 ^ 31 → 2 ^ 31 < n

module _ (w n : ℕ) (exact : 150 ≤ exponent_of w → n ≡ (2 ^ 23 + digits_of w) * 2 ^ (exponent_of w - 150)) (most : n ≤ suc (units_of w / 2 ^ 149)) where
  below : exponent_of w < 158 → n < 2 ^ 31
  unfolding units_of
  below h =
      elim (dec_lt (exponent_of w) 150) [
        | yes l ↦
            let u : units_of w < 2 ^ (23 + 149) = units-below (exponent_of w) (digits_of w) 148 (omega arith) (omega arith) in
            small-enough n (units_of w / 2 ^ 149) most (shr_lt {n = units_of w} 23 149 u)
        | no l ↦
            let d = exponent_of w - 150 in
            omega (arith, exact (omega arith), shl_lt {a = 2 ^ 23 + digits_of w} 24 d (omega arith), pow_mono {i = 24 + d} {j = 31} (omega arith))
      ]

  at-limit : exponent_of w ≡ 158 → digits_of w ≡ 0 → n ≡ 2 ^ 31
  at-limit e t = exact (omega arith) ∙ ap (λ (d : ℕ). (2 ^ 23 + d) * 2 ^ (exponent_of w - 150)) t ∙ ap (λ (k : ℕ). 2 ^ 23 * 2 ^ (k - 150)) e

  above : 158 ≤ exponent_of w → 158 * 2 ^ 23 < w % 2 ^ 31 → 2 ^ 31 < n
  above h g =
      elim (dec_lt 158 (exponent_of w)) [
        | yes l ↦ omega (
          arith,
          exact (omega arith),
          mul-le-mul {n₁ = 2 ^ 23} {m₁ = 2 ^ 9} {n₂ = 2 ^ 23 + digits_of w}
              {m₂ = 2 ^ (exponent_of w - 150)} (omega arith) (pow_mono {i = 9} {j = exponent_of w - 150} (omega arith)),
        )
        | no l ↦
            let e : exponent_of w ≡ 158 = omega arith in
            let x : n ≡ (2 ^ 23 + digits_of w) * 2 ^ 8 = exact (omega arith) ∙ ap (λ (k : ℕ). (2 ^ 23 + digits_of w) * 2 ^ (k - 150)) e in
            past-limit n (digits_of w) (omega (arith, fields w)) x
      ]

  reaches : Reaches w n
  reaches = record {
    small = λ h. below (omega (arith, fields w));
    limit = λ h. at-limit (omega (arith, fields w))
        (omega (arith, fields w));
    large = λ h. above (omega (arith, fields w)) h;
  }

pub nearest-reaches : (w : ℕ) → Reaches w (nearest_size_of w)
nearest-reaches w = reaches w (nearest_size_of w) (nearest-whole w) (nearest-least w)

pub truncated-reaches : (w : ℕ) → Reaches w (truncated_size_of w)
truncated-reaches w = reaches w (truncated_size_of w) (truncated-whole w) (truncated-least w)

-- ---- the test on the word is the test on the whole number

module _ (w n : ℕ) (r : Reaches w n) where
  positive : w < 2 ^ 31 → leb (2 ^ 31) n ≡ outside_of w
  unfolding outside_of
  positive h =
      elim (dec_lt (w % 2 ^ 31) 0x4F000000) [
        | yes l ↦
            lt-leb (2 ^ 31) n (r.small l)
            ∙ sym (simp (le-ltb 0x4F000000 (w % 2 ^ 31) (omega arith), ne_eqb w 0x4F000000 (λ e. omega arith)))
        | no l ↦
            elim (dec_lt 0x4F000000 (w % 2 ^ 31)) [
              | yes g ↦ le-leb (2 ^ 31) n (omega (arith, r.large g)) ∙ sym (simp (lt-ltb 0x4F000000 (w % 2 ^ 31) g))
              | no g ↦
                  le-leb (2 ^ 31) n (omega (arith, r.limit (omega arith)))
                  ∙ sym (simp (le-ltb 0x4F000000 (w % 2 ^ 31) (omega arith), eq-eqb w 0x4F000000 (omega arith)))
            ]
      ]

  negative : 2 ^ 31 ≤ w → ltb (2 ^ 31) n ≡ outside_of w
  unfolding outside_of
  negative h =
      elim (dec_lt 0x4F000000 (w % 2 ^ 31)) [
        | yes g ↦ lt-ltb (2 ^ 31) n (r.large g) ∙ sym (simp (lt-ltb 0x4F000000 (w % 2 ^ 31) g))
        | no g ↦
            let le : n ≤ 2 ^ 31 = most (omega arith) in
            le-ltb (2 ^ 31) n le
            ∙ sym (simp (le-ltb 0x4F000000 (w % 2 ^ 31) (omega arith), ne_eqb w 0x4F000000 (λ e. omega arith)))
      ]
    where
      most : w % 2 ^ 31 ≤ 0x4F000000 → n ≤ 2 ^ 31
      most l =
          elim (dec_lt (w % 2 ^ 31) 0x4F000000) [
            | yes s ↦ omega (arith, r.small s)
            | no s ↦ omega (arith, r.limit (omega arith))
          ]

  pub outside-same : outside (signed_by w n) ≡ outside_of w
  outside-same =
      elim (dec_lt w (2 ^ 31)) [
        | yes h ↦ rw (lt-ltb w (2 ^ 31) h) (positive h)
        | no h ↦
            let g : 2 ^ 31 ≤ w = omega arith in
            rw (le-ltb w (2 ^ 31) g) (outside-opposite n ∙ negative g)
      ]
