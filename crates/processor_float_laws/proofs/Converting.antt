-- The three conversions over whole numbers. Assumes nothing.
use Prim.Native.Nat.{ℕ, suc, ◌+◌, ◌-◌, ◌*◌, ◌/◌, ◌%◌, ◌^◌, ◌<◌, ◌≤◌, compare}
use mathlib.Core.Path.{◌≡◌, refl, sym, subst, ◌∙◌, ap}
use mathlib.Core.Bool.{Bool, true, false, not}
use native.Mathlib.Decide.{dec_lt, ℕ_discrete}
use native.Mathlib.Nat.{div-mul-le_self, div-lt_iff_lt-mul, lt-suc_self, mul-one, one-mul, mul-pos, mul-le-mul}
use native.Mathlib.Nat.{mul-le-mul_right, mul_right_comm, div-one, le-div_iff_mul-le, le_trans, le_of_eq, lt_irrefl}
use native.Mathlib.Nat.{lt_of_le_of_lt, lt_of_lt_of_le}
use native.Mathlib.Omega.{arith}
use borrow.Author.Tests.{lt-ltb, le-ltb, leb-false, ltb-false}
use lib.Dec.{T, ltb, leb}
use lib.IntN.{ℤ, pos, negsuc, neg_ℤ, nat_abs, ◌*ℤ◌}
use lib.Pow.{pow_pos, pow_mono, pow-lt, shl_lt}
use lib.Ieee.{Float, nan, inf, fin, binary32, up, down, size, round, of_int, to_bits, fits}
use lib.Ieee.Back.{round_whole}
use lib.Ieee.Digits.{size-le, size-lt}
use lib.Ieee.Exact.{HasValue}
use lib.Ieee.Fits.{of_int-fits}
use lib.Ieee.Nearest.{closest, nearest-ge}
use Rattle.word.specs.Choose.{pick}
use Rattle.word.proofs.Choices.{pick_true, pick-false}
use Rattle.processor_arithmetic.specs.Integer.{signed, outside}
use Rattle.processor_arithmetic.proofs.Reading.{plain-reading, outside-opposite, magnitude-absolute, magnitude-small}
use Rattle.processor_arithmetic.proofs.Division.{negative-word}
use Rattle.processor_float.specs.Operand.{reserved_of, units_of, signed_by, value_of}
use Rattle.processor_float.specs.Conversion.{nearest_size_of, truncated_size_of, signed_word_of, converted_of, nearest_of, truncated_of}
use Rattle.processor_float.specs.declared.FloatOutcome.{FloatOutcome}
use Rattle.processor_float.specs.declared.FloatOutcome.TheVariants.{Word, Reserved, Invalid}
use Rattle.processor_float_laws.specs.Exact.{signed_size}
use Rattle.processor_float_laws.specs.Nearest.{NearestEven}
use Rattle.processor_float_laws.specs.Rounded.{dropped_of, significand_of, rounded_of}
use Rattle.processor_float_laws.specs.Converted.{Nearest, WithoutFraction, Whole, Rounds, Truncates, Floats}
use Rattle.processor_float_laws.proofs.Grid.{closest-is, reached}
use Rattle.processor_float_laws.proofs.Signs.{size_of}
use Rattle.processor_float_laws.proofs.Settled.{round_number}
use Rattle.processor_float_laws.proofs.Words.{WordOf, word_of, kept-most}
use Rattle.processor_float_laws.proofs.Distance.{pos-times, rounded-nearest}

-- ---- to whole numbers

nearest-size : (w : ℕ) → Nearest (units_of w) (nearest_size_of w)
unfolding nearest_size_of
nearest-size w =
    let c = closest-is (units_of w) (2 ^ 149) (pow_pos 149) in
    record { above = c.above; under = c.under; tie_above = c.tie_above; tie_under = c.tie_under }

truncated-size : (w : ℕ) → WithoutFraction (units_of w) (truncated_size_of w)
unfolding truncated_size_of
truncated-size w =
    record {
      least = div-mul-le_self (units_of w) (2 ^ 149);
      most = (div-lt_iff_lt-mul {k = 2 ^ 149} {x = units_of w} {y = suc (units_of w / 2 ^ 149)} (pow_pos 149)).0 (lt-suc_self (units_of w / 2 ^ 149));
    }

-- a word of a size within the signed word reads as that whole number
signed_word : (w n : ℕ) → outside (signed_by w n) ≡ false → signed (signed_word_of w n) ≡ signed_by w n
unfolding signed_word_of
signed_word w n =
    elim (dec_lt w (2 ^ 31)) [
      | yes h ↦ rw (lt-ltb w (2 ^ 31) h) (λ (e : outside (pos n) ≡ false). plain-reading (2 ^ 31) n (leb-false (2 ^ 31) n e))
      | no h ↦
          let g : 2 ^ 31 ≤ w = omega arith in
          rw (le-ltb w (2 ^ 31) g) (λ (e : outside (neg_ℤ (pos n)) ≡ false). negative-word n (ltb-false (2 ^ 31) n (sym (outside-opposite n) ∙ e)))
    ]

whole : (w n : ℕ) → Whole w n (converted_of w n)
whole w n =
    let number = pick (outside (signed_by w n)) Invalid (Word (signed_word_of w n)) in
    record {
      reserved = λ h. sym (pick_true (reserved_of w) Reserved number h);
      invalid = λ h e. sym (pick_true (outside (signed_by w n)) Invalid (Word (signed_word_of w n)) e ∙ pick-false (reserved_of w) Reserved number h);
      word = λ h e. (
        signed_word_of w n,
        sym (pick-false (outside (signed_by w n)) Invalid (Word (signed_word_of w n)) e ∙ pick-false (reserved_of w) Reserved number h),
        signed_word w n e,
      );
    }

pub rounds : (w : ℕ) → Rounds w
unfolding nearest_of
rounds w = record { size = nearest-size w; whole = whole w (nearest_size_of w) }

pub truncates : (w : ℕ) → Truncates w
unfolding truncated_of
truncates w = record { size = truncated-size w; whole = whole w (truncated_size_of w) }

-- ---- to a float

float-rounds : (z : ℤ) → (s : Bool) × (of_int binary32 z ≡ round binary32 s (nat_abs z) 1) × (z ≡ signed_size s (nat_abs z))
unfolding of_int
float-rounds (pos n) = (false, refl, refl)
float-rounds (negsuc k) = (true, refl, refl)

module _ (n : ℕ) (N : 0 < n) (M : n ≤ 2 ^ 31) where
  units : 2 ^ 149 ≤ n * 2 ^ 149
  units = le_trans (le_of_eq (sym (one-mul (2 ^ 149)))) (mul-le-mul_right (2 ^ 149) N)

  dropped-some : 0 < dropped_of n 1
  dropped-some =
      elim (dec_lt 24 (size (n * 2 ^ 149 / 1))) [
        | yes h ↦ omega arith
        | no h ↦
            absurd (lt_irrefl (2 ^ 149)
            (lt_of_lt_of_le (lt_of_le_of_lt (le_trans units (le_of_eq (sym (div-one (n * 2 ^ 149))))) (size-lt (n * 2 ^ 149 / 1)))
            (pow_mono {i = size (n * 2 ^ 149 / 1)} {j = 149} (omega arith))))
      ]

  kept-least : 2 ^ 23 ≤ significand_of n 1
  kept-least =
      le_trans ((le-div_iff_mul-le (mul-pos (omega arith) (pow_pos (dropped_of n 1)))).1 (reached 24 (n * 2 ^ 149) 1 (omega arith) (omega arith) dropped-some))
      (nearest-ge (n * 2 ^ 149 / (1 * 2 ^ dropped_of n 1)) (compare (n * 2 ^ 149 % (1 * 2 ^ dropped_of n 1) * 2) (1 * 2 ^ dropped_of n 1)))

  normal : 2 ^ 23 ≤ rounded_of n 1
  normal = le_trans (le_of_eq (sym (mul-one (2 ^ 23)))) (mul-le-mul kept-least (pow_pos (dropped_of n 1)))

  few : size (n * 2 ^ 149 / 1) ≤ 181
  few =
      size-le (n * 2 ^ 149 / 1) 181
      (lt_of_le_of_lt (le_of_eq (div-one (n * 2 ^ 149)))
      (shl_lt {a = n} 32 149 (omega arith)))

  bounded : rounded_of n 1 < 2 ^ 277
  bounded =
      let k : dropped_of n 1 ≤ 157 = omega (arith, few) in
      lt_of_le_of_lt (mul-le-mul (kept-most n 1) (pow_mono {i = dropped_of n 1} {j = 157} k)) (pow-lt {i = 181} {j = 277} (omega arith))

-- of a value over 1, in units
over-units : (v : Float) (s : Bool) (n : ℕ) → HasValue v s n 1 → HasValue v s (n * 2 ^ 149) (2 ^ 149)
over-units nan s n h = h
over-units (inf t) s n h = h
over-units (fin t m e) s n h =
    (h.0, ap (λ (x : ℕ). x * 2 ^ 149) (sym (mul-one (m * up e)) ∙ h.1) ∙ mul_right_comm n (down e) (2 ^ 149))

module _ (z : ℤ) (M : nat_abs z ≤ 2 ^ 31) where
  abbrev s : Bool
  s = (float-rounds z).0

  abbrev v : Float
  v = of_int binary32 z

  is : of_int binary32 z ≡ round binary32 s (nat_abs z) 1
  is = (float-rounds z).1

  fit : T (fits binary32 v)
  fit = of_int-fits binary32 z

  float-nearest : 0 < nat_abs z → NearestEven z 1 (to_bits binary32 v)
  float-nearest h =
      let g = bounded (nat_abs z) h M in
      let w : WordOf v s (rounded_of (nat_abs z) 1) (to_bits binary32 v) =
      word_of v s (rounded_of (nat_abs z) 1) fit
      (subst (λ (u : Float). HasValue u s (rounded_of (nat_abs z) 1) (2 ^ 149)) (sym is) (round_number s (nat_abs z) 1 g)) in
      subst (λ (x : ℤ). NearestEven x 1 (to_bits binary32 v)) (sym (float-rounds z).2)
      (rounded-nearest s (nat_abs z) 1 (omega arith) v (to_bits binary32 v) w (normal (nat_abs z) h M))

  float-exact : nat_abs z ≤ 2 ^ 24 → value_of (to_bits binary32 v) ≡ z *ℤ pos (2 ^ 149)
  float-exact h =
      let u : HasValue v s (nat_abs z * 2 ^ 149) (2 ^ 149) =
      over-units v s (nat_abs z) (subst (λ (x : Float). HasValue x s (nat_abs z) 1) (sym is) (round_whole binary32 s (nat_abs z) h)) in
      (word_of v s (nat_abs z * 2 ^ 149) fit u).valued
      ∙ sym (pos-times s (nat_abs z) (2 ^ 149))
      ∙ ap (λ (x : ℤ). x *ℤ pos (2 ^ 149)) (sym (float-rounds z).2)

pub floats : (w : ℕ) → w < 2 ^ 32 → Floats w
floats w h =
    let m : nat_abs (signed w) ≤ 2 ^ 31 = subst (λ (x : ℕ). x ≤ 2 ^ 31) (sym (magnitude-absolute w h)) (magnitude-small w) in
    record { nearest = float-nearest (signed w) m; exact = float-exact (signed w) m }
