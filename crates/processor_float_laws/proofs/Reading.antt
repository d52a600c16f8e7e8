-- The float of a finite word has the word's sign and its size in units of 2 ^ -149; and what two such floats compare to.
-- Assumes nothing.
use Prim.Native.Nat.{ℕ, zero, suc, ◌+◌, ◌-◌, ◌*◌, ◌/◌, ◌%◌, ◌^◌, ◌<◌, ◌≤◌}
use mathlib.Core.Path.{◌≡◌, refl, sym, subst, ◌∙◌, ap}
use mathlib.Core.Bool.{Bool, true, false, not, ◌&&◌, ◌||◌, beq, cond}
use native.Mathlib.Nat.{mul-one, mul_assoc, mul_comm, mul_right_comm, mul-pos, mul-lt-mul_of_pos_right, lt_of_mul-lt-mul_right, eq_of_mul-eq-mul_right, add-mul}
use native.Mathlib.Omega.{arith}
use borrow.Author.Tests.{ne_eqb}
use lib.Dec.{T, ltb, leb, eqb}
use lib.Pow.{field, mod-pow-add, pow_pos}
use lib.IntN.{ℤ, pos, negsuc, neg_ℤ}
use lib.Ieee.{Float, nan, inf, fin, binary32, up, down, odd, of_fields, of_bits, lt, eq, below, level}
use lib.Ieee.Exact.{HasValue, odd_sign}
use lib.Ieee.Fits.{down_pos}
use lib.Ieee.Positive.{first_pos}
use Rattle.word.proofs.Choices.{less-same, equal-same}
use Rattle.processor_float.specs.Operand.{exponent_of, digits_of, units_in, units_of, float_of}
use Rattle.processor_float_laws.specs.Nearest.{Finite}

fields_value : (s : Bool) (e t : ℕ) → e < 255 → HasValue (of_fields binary32 s e t) s (units_in e t) (2 ^ 149)
unfolding of_fields
fields_value s zero t h = subst (λ (n : ℕ). HasValue (odd 24 s t 0 149) s n (2 ^ 149)) (mul-one t) (odd_sign 24 s t 0 149)
fields_value s (suc x) t h =
    let no : eqb (suc x) 255 ≡ false = ne_eqb (suc x) 255 (λ z. omega arith) in
    subst (λ (b : Bool). HasValue (cond b (cond (eqb t 0) (inf s) nan) (odd 24 s (2 ^ 23 + t) x 149)) s ((2 ^ 23 + t) * 2 ^ x) (2 ^ 149))
    (sym no) (odd_sign 24 s (2 ^ 23 + t) x 149)

pub reading : (w : ℕ) → Finite w → HasValue (float_of w) (leb (2 ^ 31) w) (units_of w) (2 ^ 149)
unfolding of_bits units_of
reading w h =
    let e : w % 2 ^ 31 / 2 ^ 23 ≡ exponent_of w = field w 8 23 in
    subst (λ (x : ℕ). HasValue (of_fields binary32 (leb (2 ^ 31) w) x (digits_of w)) (leb (2 ^ 31) w) (units_in (exponent_of w) (digits_of w)) (2 ^ 149))
    (sym e) (fields_value (leb (2 ^ 31) w) (exponent_of w) (digits_of w) (omega (arith, mod-pow-add w 8 23)))

-- ---- two fractions over the same c: what a cross product says of the numerators

module _ (x y de dd a b c : ℕ) (C : 0 < c) (E : 0 < de) (D : 0 < dd) (p : x * c ≡ a * de) (q : y * c ≡ b * dd) where
  first : x * dd * c ≡ a * (de * dd)
  first = mul_right_comm x dd c ∙ ap (λ (n : ℕ). n * dd) p ∙ mul_assoc a de dd

  second : y * de * c ≡ b * (de * dd)
  second = mul_right_comm y de c ∙ ap (λ (n : ℕ). n * de) q ∙ mul_assoc b dd de ∙ ap (λ (n : ℕ). b * n) (mul_comm dd de)

  both-pos : 0 < de * dd
  both-pos = mul-pos E D

  pub cross-lt : ltb (x * dd) (y * de) ≡ ltb a b
  cross-lt =
      less-same (x * dd) (y * de) a b
      (λ g. lt_of_mul-lt-mul_right (de * dd) (subst (λ (n : ℕ). n < b * (de * dd)) first (subst (λ
      (n : ℕ). x * dd * c < n) second (mul-lt-mul_of_pos_right g C))))
      (λ h. lt_of_mul-lt-mul_right c (subst (λ (n : ℕ). n < y * de * c) (sym first) (subst (λ (n : ℕ). a *
      (de * dd) < n) (sym second) (mul-lt-mul_of_pos_right h both-pos))))

  pub cross-eq : eqb (x * dd) (y * de) ≡ eqb a b
  cross-eq =
      equal-same (x * dd) (y * de) a b
      (λ g. eq_of_mul-eq-mul_right (de * dd) both-pos a b (sym first ∙ ap (λ (n : ℕ). n * c) g ∙ second))
      (λ h. eq_of_mul-eq-mul_right c C (x * dd) (y * de) (first ∙ ap (λ (n : ℕ). n * (de * dd)) h ∙ sym second))

  pub cross-sum : ltb 0 (x * dd + y * de) ≡ ltb 0 (a + b)
  cross-sum =
      let e : (x * dd + y * de) * c ≡ (a + b) * (de * dd) = add-mul (x * dd) (y * de) c ∙ ap (λ
      (n : ℕ). n + y * de * c) first ∙ ap (λ (n : ℕ). a * (de * dd) + n) second ∙ sym (add-mul a b (de * dd)) in
      less-same 0 (x * dd + y * de) 0 (a + b)
      (λ g. first_pos (a + b) (de * dd) (subst (λ (n : ℕ). 0 < n) e (mul-pos g C)))
      (λ h. first_pos (x * dd + y * de) c (subst (λ (n : ℕ). 0 < n) (sym e) (mul-pos h both-pos)))
