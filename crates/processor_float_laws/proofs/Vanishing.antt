-- The exact result is zero just where the code's test says so. Assumes nothing.
use Prim.Native.Nat.{ℕ, zero, suc, ◌+◌, ◌-◌, ◌*◌, ◌/◌, ◌%◌, ◌^◌, ◌<◌, ◌≤◌}
use mathlib.Core.Path.{◌≡◌, sym, subst, ◌∙◌, ap}
use mathlib.Core.Bool.{Bool, true, false, not, ◌&&◌, ◌||◌, not-not}
use native.Mathlib.Decide.{dec_lt, ℕ_discrete}
use native.Mathlib.Nat.{mul-pos, zero-mul, mul-zero}
use native.Mathlib.Omega.{arith}
use borrow.Author.Tests.{lt-ltb, le-ltb, eq-eqb, ne_eqb}
use lib.Dec.{ltb, leb, eqb}
use lib.Pow.{pow_pos, mod-pow-add}
use lib.IntN.{ℤ, pos, neg_ℤ, nat_abs, ◌+ℤ◌, ◌-ℤ◌, ◌*ℤ◌}
use lib.Ieee.{neg, level, unlike}
use Rattle.word.specs.Choose.{pick}
use Rattle.processor_float.specs.Operand.{exponent_of, digits_of, units_in, units_of, is_zero, signed_by, value_of, float_of}
use Rattle.processor_float.specs.Arithmetic.{vanishes_of}
use Rattle.processor_float.specs.declared.Operation.{Operation}
use Rattle.processor_float.specs.declared.Operation.TheVariants.{Add, Subtract, Multiply, Divide}
use Rattle.processor_float_laws.specs.Nearest.{Finite}
use Rattle.processor_float_laws.specs.Exact.{signed_size, numerator_of}
use Rattle.processor_float_laws.proofs.Reading.{reading}
use Rattle.processor_float_laws.proofs.Signs.{size_of, opposite, signed-value, times}
use Rattle.processor_float_laws.proofs.Rounds.{neg_value}
use Rattle.processor_float_laws.proofs.Values.{eq-values, zero-sum}

-- a word is a zero where its value is
no-units : (e t : ℕ) → eqb (e * 2 ^ 23 + t) 0 ≡ eqb (units_in e t) 0
no-units zero t =
    let e : 0 * 2 ^ 23 + t ≡ t = omega arith in
    ap (λ (n : ℕ). eqb n 0) e
no-units (suc x) t =
    let p : 0 < (2 ^ 23 + t) * 2 ^ x = mul-pos (omega arith) (pow_pos x) in
    ne_eqb (suc x * 2 ^ 23 + t) 0 (λ z. omega arith) ∙ sym (ne_eqb ((2 ^ 23 + t) * 2 ^ x) 0 (λ z. omega arith))

pub zero-units : (w : ℕ) → is_zero w ≡ eqb (units_of w) 0
unfolding units_of
zero-units w = ap (λ (n : ℕ). eqb n 0) (mod-pow-add w 8 23) ∙ no-units (exponent_of w) (digits_of w)

zero-product : (a b : ℕ) → (eqb a 0 || eqb b 0) ≡ eqb (a * b) 0
zero-product zero b = sym (eq-eqb (0 * b) 0 (zero-mul b))
zero-product (suc a) zero = simp (ne_eqb (suc a) 0 (λ z. omega arith)) (sym (eq-eqb (suc a * 0) 0 (mul-zero (suc a))))
zero-product (suc a) (suc b) =
    let p : 0 < suc a * suc b = mul-pos (omega arith) (omega arith) in
    simp (ne_eqb (suc a) 0 (λ z. omega arith), ne_eqb (suc b) 0 (λ z. omega arith)) (sym (ne_eqb (suc a * suc b) 0 (λ z. omega arith)))

module _ (x y : ℕ) (hx : Finite x) (hy : Finite y) where
  abbrev s : Bool
  s = leb (2 ^ 31) x

  abbrev t : Bool
  t = leb (2 ^ 31) y

  pub vanishes-is : (op : Operation) → vanishes_of op x y (float_of x) (float_of y) ≡ eqb (nat_abs (numerator_of op x y)) 0
  vanishes-is Add =
      eq-values (float_of x) (neg (float_of y)) s (not t) (units_of x) (units_of y) (reading x hx) (neg_value (float_of y) t (units_of y) (2 ^ 149) (reading y hy))
      ∙ sym (rw (signed-value x (units_of x), signed-value y (units_of y)) (zero-sum s t (units_of x) (units_of y)))
  vanishes-is Subtract =
      eq-values (float_of x) (float_of y) s t (units_of x) (units_of y) (reading x hx) (reading y hy)
      ∙ ap (λ (b : Bool). level s (units_of x) b (units_of y)) (sym (not-not t))
      ∙ sym (rw (signed-value x (units_of x), signed-value y (units_of y), opposite t (units_of y)) (zero-sum s (not t) (units_of x) (units_of y)))
  vanishes-is Multiply =
      ap (λ (b : Bool). b || is_zero y) (zero-units x)
      ∙ ap (λ (b : Bool). eqb (units_of x) 0 || b) (zero-units y)
      ∙ zero-product (units_of x) (units_of y)
      ∙ ap (λ (n : ℕ). eqb n 0) (sym (size_of (unlike s t) (units_of x * units_of y)))
      ∙ ap (λ (z : ℤ). eqb (nat_abs z) 0)
      (sym (ap (λ (z : ℤ). z *ℤ value_of y) (signed-value x (units_of x)) ∙ ap (λ (z : ℤ). signed_size s (units_of x) *ℤ z)
      (signed-value y (units_of y)) ∙ times s t (units_of x) (units_of y)))
  vanishes-is Divide = zero-units x ∙ ap (λ (n : ℕ). eqb n 0) (sym (size (ltb y (2 ^ 31))))
    where
      plain : nat_abs (value_of x) ≡ units_of x
      plain = ap nat_abs (signed-value x (units_of x)) ∙ size_of s (units_of x)

      size : (b : Bool) → nat_abs (pick b (value_of x) (neg_ℤ (value_of x))) ≡ units_of x
      size true = plain
      size false = ap (λ (z : ℤ). nat_abs (neg_ℤ z)) (signed-value x (units_of x)) ∙ ap nat_abs (opposite s (units_of x)) ∙ size_of (not s) (units_of x)
