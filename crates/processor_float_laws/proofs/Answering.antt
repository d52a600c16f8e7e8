-- The answers of the four operations, by the exact result and its rounding. Assumes nothing.
use Prim.Native.Nat.{ℕ, ◌+◌, ◌*◌, ◌%◌, ◌^◌, ◌<◌, ◌≤◌}
use mathlib.Core.Path.{◌≡◌, refl, sym, subst, ◌∙◌, ap}
use mathlib.Core.Bool.{Bool, true, false, not, ◌&&◌, ◌||◌}
use native.Mathlib.Omega.{arith}
use borrow.Author.Tests.{lt-ltb, le-ltb, leb-false, eqb-false}
use lib.Dec.{ltb, leb, eqb}
use lib.IntN.{ℤ, pos, nat_abs}
use lib.Pow.{pow_pos}
use lib.Ieee.{Float, fin, binary32, to_bits, round}
use lib.Ieee.Fits.{round-fits}
use Rattle.word.specs.Choose.{pick}
use Rattle.word.proofs.Choices.{or-neither, pick_true, pick-false}
use Rattle.processor_float.specs.Operand.{reserved_of, is_zero, float_of, units_of, size_bits_of}
use Rattle.processor_float.specs.Arithmetic.{computed_of, vanishes_of, is_divide, settled_of, float_result_of, outcome_of}
use Rattle.processor_float.specs.declared.Operation.{Operation}
use Rattle.processor_float.specs.declared.Operation.TheVariants.{Add, Subtract, Multiply, Divide}
use Rattle.processor_float.specs.declared.FloatOutcome.{FloatOutcome}
use Rattle.processor_float.specs.declared.FloatOutcome.TheVariants.{Number, Reserved, Invalid, ZeroDivide, Overflow}
use Rattle.processor_float_laws.specs.Exact.{signed_size, numerator_of, denominator_of, zero_sign_of}
use Rattle.processor_float_laws.specs.Nearest.{Finite, NearestEven}
use Rattle.processor_float_laws.specs.Rounded.{rounded_of}
use Rattle.processor_float_laws.specs.Answer.{HasResult, magnitude_size_of, Answered, EachAnswered, Traps}
use Rattle.processor_float_laws.proofs.Rounds.{Rounds, positive, operation-rounds}
use Rattle.processor_float_laws.proofs.Settled.{settled-round, round_number}
use Rattle.processor_float_laws.proofs.Vanishing.{zero-units, vanishes-is}
use Rattle.processor_float_laws.proofs.Words.{WordOf, word_of}
use Rattle.processor_float_laws.proofs.Distance.{rounded-nearest}

-- a word that is not reserved is finite
pub not-reserved : (w : ℕ) → reserved_of w ≡ false → Finite w
not-reserved w e = leb-false 0x7F800000 (w % 2 ^ 31) (or-neither (leb 0x7F800000 (w % 2 ^ 31)) _ e).0

-- no denominator is zero
denominator-pos : (op : Operation) (x y : ℕ) → (is_divide op && is_zero y) ≡ false → 0 < denominator_of op x y
denominator-pos Add x y h = pow_pos 149
denominator-pos Subtract x y h = pow_pos 149
denominator-pos Multiply x y h = pow_pos 298
denominator-pos Divide x y h = positive (units_of y) (sym (zero-units y) ∙ h)

module _ (op : Operation) (x y : ℕ) (c : HasResult op x y) where
  both : (reserved_of x ≡ false) × (reserved_of y ≡ false)
  both = or-neither (reserved_of x) (reserved_of y) c.0

  abbrev num : ℤ
  num = numerator_of op x y

  abbrev den : ℕ
  den = denominator_of op x y

  den_pos : 0 < denominator_of op x y
  den_pos = denominator-pos op x y c.1

  rounds : Rounds (computed_of op (float_of x) (float_of y)) (numerator_of op x y) (denominator_of op x y) (zero_sign_of op x y)
  rounds = operation-rounds x y (not-reserved x both.0) (not-reserved y both.1) op den_pos

  exact : vanishes_of op x y (float_of x) (float_of y) ≡ eqb (nat_abs (numerator_of op x y)) 0
  exact = vanishes-is x y (not-reserved x both.0) (not-reserved y both.1) op

  result : float_result_of op x y ≡ outcome_of op x y
  unfolding outcome_of
  result =
      pick-false (is_divide op && is_zero y) (pick (is_zero x) Invalid ZeroDivide) (float_result_of op x y) c.1
      ∙ pick-false (reserved_of x || reserved_of y) Reserved (pick (is_divide op && is_zero y) (pick (is_zero x) Invalid ZeroDivide) (float_result_of op x y)) c.0

  abbrev value : Float
  value = round binary32 rounds.sign (nat_abs num) den

  abbrev small : FloatOutcome
  small = pick (ltb (magnitude_size_of op x y) (2 ^ 23)) (Number (fin rounds.sign 0 (pos 0)) (not (eqb (nat_abs num) 0))) (Number value false)

  by_size : outcome_of op x y ≡ pick (ltb (magnitude_size_of op x y) (2 ^ 277)) small Overflow
  by_size =
      sym result
      ∙ ap (λ (b : Bool). settled_of b (computed_of op (float_of x) (float_of y))) exact
      ∙ ap (settled_of (eqb (nat_abs num) 0)) rounds.is
      ∙ settled-round (eqb (nat_abs num) 0) rounds.sign (nat_abs num) den

  within : magnitude_size_of op x y < 2 ^ 277 → outcome_of op x y ≡ small
  within h = by_size ∙ sym (pick_true (ltb (magnitude_size_of op x y) (2 ^ 277)) small Overflow (lt-ltb (magnitude_size_of op x y) (2 ^ 277) h))

  less : (a b d : ℕ) → a < b → b ≤ d → a < d
  less a b d h l = omega arith

  pub answered : Answered op x y
  answered =
      record {
        sign = rounds.sign;
        signs = rounds.agrees;
        zero_signs = rounds.zero-sign;
        overflow = λ h. by_size ∙ sym (pick-false (ltb (magnitude_size_of op x y) (2 ^ 277)) small Overflow (le-ltb (magnitude_size_of op x y) (2 ^ 277) h));
        underflow =
            λ h.
            within (less (magnitude_size_of op x y) (2 ^ 23) (2 ^ 277) h (lib.Pow.pow_mono {i = 23} {j = 277} (omega arith)))
            ∙ sym (pick_true (ltb (magnitude_size_of op x y) (2 ^ 23)) (Number (fin rounds.sign 0 (pos 0)) (not (eqb
            (nat_abs num) 0))) (Number value false) (lt-ltb (magnitude_size_of op x y) (2 ^ 23) h));
        value = value;
        number =
            λ h l.
            within l
            ∙ sym (pick-false (ltb (magnitude_size_of op x y) (2 ^ 23)) (Number (fin rounds.sign 0 (pos 0)) (not (eqb
            (nat_abs num) 0))) (Number value false) (le-ltb (magnitude_size_of op x y) (2 ^ 23) h));
        nearest =
            λ h l.
            subst (λ (z : ℤ). NearestEven z den (to_bits binary32 value)) (sym rounds.agrees)
            (rounded-nearest rounds.sign (nat_abs num) den den_pos value (to_bits binary32 value)
            (word_of value rounds.sign (magnitude_size_of op x y) (round-fits binary32 rounds.sign (nat_abs num) den)
            (round_number rounds.sign (nat_abs num) den l)) h);
      }

pub each-answered : EachAnswered
each-answered op x y c = answered op x y c

pub traps-first : (op : Operation) (x y : ℕ) → Traps op x y
unfolding outcome_of
traps-first op x y =
    let numbers = pick (is_divide op && is_zero y) (pick (is_zero x) Invalid ZeroDivide) (float_result_of op x y) in
    let divided = pick (is_zero x) Invalid ZeroDivide in
    record {
      reserved = λ h. sym (pick_true (reserved_of x || reserved_of y) Reserved numbers h);
      invalid =
          λ h z e.
          sym (pick_true (is_zero x) Invalid ZeroDivide e ∙ pick_true (is_divide op && is_zero y) divided
          (float_result_of op x y) z ∙ pick-false (reserved_of x || reserved_of y) Reserved numbers h);
      zero_divide =
          λ h z e.
          sym (pick-false (is_zero x) Invalid ZeroDivide e ∙ pick_true (is_divide op && is_zero y) divided
          (float_result_of op x y) z ∙ pick-false (reserved_of x || reserved_of y) Reserved numbers h);
    }
