-- What the comparisons of `settle` say of a result. Assumes nothing.
use Rattle.std.proofs.Common.{◌≡◌, ℕ, zero, suc, ◌+◌, ◌*◌, ◌^◌, ◌<◌, Bool, true, false, not, ◌&&◌, ◌||◌, T, eqb, ltb, ℤ, pos, negsuc, sym, refl, ap, ◌∙◌, subst, mul-pos, arith, eqb→eq, pow_pos, le-ltb, lt-ltb, eq-eqb, ne_eqb}
use mathlib.Core.Bool.{beq}
use native.Mathlib.Nat.{pow-succ'}
use lib.Count.{count_trailing_zeros}
use lib.Ieee.{Float, nan, inf, fin, binary32, up, down, div, neg, eq, lt, of_bits, of_fields, odd, fits}
use lib.Ieee.Fits.{up_pos, down_pos}
use lib.Ieee.Positive.{first_pos}
use Rattle.word.proofs.Choices.{less-same, and_right, pick_true, pick-false}
use Rattle.processor_float.specs.Arithmetic.{is_tiny, settled_of}
use Rattle.processor_float.specs.declared.FloatOutcome.{FloatOutcome}
use Rattle.processor_float.specs.declared.FloatOutcome.TheVariants.{Number, Overflow}

pub infinity : of_bits binary32 0x7F800000 ≡ inf false
unfolding of_bits of_fields odd count_trailing_zeros
infinity = refl

pub minus-infinity : of_bits binary32 0xFF800000 ≡ inf true
unfolding of_bits of_fields odd count_trailing_zeros
minus-infinity = refl

nothing : of_bits binary32 0 ≡ fin false 0 (pos 0)
unfolding of_bits of_fields odd count_trailing_zeros
nothing = refl

-- 2 ^ -126
least : of_bits binary32 8388608 ≡ fin false 1 (negsuc 125)
unfolding of_bits of_fields odd count_trailing_zeros
least = refl

pub overflows : (exact t : Bool) (v : Float) → eq v (inf t) ≡ true → Overflow ≡ settled_of exact v
unfolding eq settled_of
overflows exact t nan e = absurd (subst T (sym e) tt)
overflows exact t (inf s) e = refl
overflows exact t (fin s m d) e = absurd (subst T (sym e) tt)

-- a test of two that fails at the first or at the second
pub fails-first : (a b : Bool) → a ≡ false → (a && b) ≡ false
fails-first a b e = rw e

pub fails-second : (a b : Bool) → b ≡ false → (a && b) ≡ false
fails-second true b e = e
fails-second false b e = refl

and_same : {a b c d : Bool} → a ≡ c → b ≡ d → (a && b) ≡ (c && d)
and_same p q = cc

not-zero : (m : ℕ) (e : ℤ) → 0 < m → 0 < m * up e
not-zero m e h = mul-pos h (up_pos e)

-- above 0 and below 2 ^ -126
positive-tests : (m : ℕ) (e : ℤ)
    → (lt (fin false 0 (pos 0)) (fin false m e) && lt (fin false m e) (fin false 1 (negsuc 125))) ≡ (ltb 0 m && is_tiny m e)
unfolding lt
positive-tests m e =
    and_same
    (less-same (0 * 1 * down e) (m * up e * 1) 0 m (λ h. first_pos m (up e) (omega arith)) (λ h. omega (arith, not-zero m e h)))
    (less-same (m * up e * 2 ^ 126) (1 * 1 * down e) (m * up e * 2 ^ 126) (down e) (λ h. omega arith) (λ h. omega arith))

-- below 0 and above -2 ^ -126
negative-tests : (m : ℕ) (e : ℤ)
    → (lt (fin true m e) (fin false 0 (pos 0)) && lt (neg (fin false 1 (negsuc 125))) (fin true m e)) ≡ (ltb 0 m && is_tiny m e)
unfolding lt neg
negative-tests m e =
    and_same
    (less-same 0 (m * up e * 1 + 0 * 1 * down e) 0 m (λ h. first_pos m (up e) (omega arith)) (λ h. omega (arith, not-zero m e h)))
    (less-same (m * up e * 2 ^ 126) (1 * 1 * down e) (m * up e * 2 ^ 126) (down e) (λ h. omega arith) (λ h. omega arith))

-- nothing is above 0 and has a sign
unsigned : (m : ℕ) (e : ℤ) (b : Bool) → (lt (fin false m e) (fin false 0 (pos 0)) && b) ≡ false
unfolding lt
unsigned m e b = rw (le-ltb (m * up e * 1) (0 * 1 * down e) (omega arith))

never : {A : Type 0} → false ≡ true → A
never e = absurd (subst T (sym e) tt)

-- a product is zero where its first factor is
no_size : (m : ℕ) (e : ℤ) → m * up e ≡ 0 → m ≡ 0
no_size zero e h = refl
no_size (suc m) e h = absurd (omega (arith, not-zero (suc m) e (omega arith)))

-- a test against zero
zero_test : (s : Bool) (m : ℕ) (e : ℤ) (t : Bool) → eq (fin s m e) (fin false 0 (pos 0)) ≡ t → eqb m 0 ≡ t
unfolding eq
zero_test s zero e t h = go s h
  where
    go : (s : Bool) → (eqb (0 * up e * 1) (0 * 1 * down e) && (beq s false || eqb (0 * up e * 1) 0)) ≡ t → true ≡ t
    go true h = sym (simp (eq-eqb (0 * up e * 1) (0 * 1 * down e) (omega arith), eq-eqb (0 * up e * 1) 0 (omega arith))) ∙ h
    go false h = sym (simp (eq-eqb (0 * up e * 1) (0 * 1 * down e) (omega arith))) ∙ h
zero_test s (suc m) e t h =
    ne_eqb (suc m) 0 (λ z. omega arith)
    ∙ sym (simp (ne_eqb (suc m * up e * 1) (0 * 1 * down e) (λ z. omega (arith, not-zero (suc m) e (omega arith)))))
    ∙ h

-- a zero is written in one way
plain-zero : (s : Bool) (e : ℤ) → T (fits binary32 (fin s 0 e)) → e ≡ pos 0
unfolding fits
plain-zero s (pos zero) h = refl
plain-zero s (pos (suc k)) h = absurd (omega (arith, eqb→eq (2 ^ suc k * 1) 1 h, pow-succ' 2 k, pow_pos k))
plain-zero s (negsuc k) h = absurd (omega (arith, eqb→eq (1 * 2 ^ suc k) 1 h, pow-succ' 2 k, pow_pos k))

abbrev pub above-zero : Float → Bool
above-zero v = lt (of_bits binary32 0) v && lt v (of_bits binary32 8388608)

abbrev pub below-zero : Float → Bool
below-zero v = lt v (of_bits binary32 0) && lt (neg (of_bits binary32 8388608)) v

module _ (exact : Bool) where
  flushed : (s : Bool) (m : ℕ) (e : ℤ) → is_tiny m e ≡ true → Number (fin s 0 (pos 0)) (not exact) ≡ settled_of exact (fin s m e)
  unfolding settled_of
  flushed s m e h = pick_true (is_tiny m e) (Number (fin s 0 (pos 0)) (not exact)) (Number (fin s m e) false) h

  whole : (s : Bool) (m : ℕ) (e : ℤ) → is_tiny m e ≡ false → Number (fin s m e) false ≡ settled_of exact (fin s m e)
  unfolding settled_of
  whole s m e h = pick-false (is_tiny m e) (Number (fin s 0 (pos 0)) (not exact)) (Number (fin s m e) false) h

  pub flushes-positive : (v : Float) → above-zero v ≡ true → Number (of_bits binary32 0) (not exact) ≡ settled_of exact v
  unfolding lt
  flushes-positive v = rw (nothing, least) (go v)
    where
      go : (v : Float) → (lt (fin false 0 (pos 0)) v && lt v (fin false 1 (negsuc 125))) ≡ true → Number (fin false 0 (pos 0)) (not exact) ≡ settled_of exact v
      go nan h = never h
      go (inf true) h = never h
      go (inf false) h = never h
      go (fin true m e) h = never h
      go (fin false m e) h = flushed false m e (and_right (ltb 0 m) (is_tiny m e) (sym (positive-tests m e) ∙ h))

  pub flushes-negative : (v : Float) → below-zero v ≡ true → Number (neg (of_bits binary32 0)) (not exact) ≡ settled_of exact v
  unfolding lt neg
  flushes-negative v = rw (nothing, least) (go v)
    where
      go : (v : Float) → (lt v (fin false 0 (pos 0)) && lt (neg (fin false 1 (negsuc 125))) v) ≡ true → Number (neg
          (fin false 0 (pos 0))) (not exact) ≡ settled_of exact v
      go nan h = never h
      go (inf true) h = never h
      go (inf false) h = never h
      go (fin false m e) h = never (sym (unsigned m e _) ∙ h)
      go (fin true m e) h = flushed true m e (and_right (ltb 0 m) (is_tiny m e) (sym (negative-tests m e) ∙ h))

  pub zero-stays : (v : Float) → fits binary32 v ≡ true → eq v (of_bits binary32 0) ≡ true → Number v (not exact) ≡ settled_of exact v
  unfolding eq
  zero-stays v f = rw nothing (go v (subst T (sym f) tt))
    where
      tiny : (e : ℤ) → is_tiny 0 e ≡ true
      tiny e = lt-ltb (0 * up e * 2 ^ 126) (down e) (omega (arith, down_pos e))

      go : (v : Float) → T (fits binary32 v) → eq v (fin false 0 (pos 0)) ≡ true → Number v (not exact) ≡ settled_of exact v
      go nan f h = never h
      go (inf s) f h = never h
      go (fin s zero e) f h = ap (λ (d : ℤ). (Number (fin s 0 d) (not exact))) (plain-zero s e f) ∙ flushed s 0 e (tiny e)
      go (fin s (suc m) e) f h = never (sym (ne_eqb (suc m) 0 (λ z. omega arith)) ∙ zero_test s (suc m) e true h)

  pub stays : (v : Float) → eq v (inf false) ≡ false → eq v (inf true) ≡ false → above-zero v ≡ false → below-zero v ≡ false
      → eq v (of_bits binary32 0) ≡ false
      → Number v false ≡ settled_of exact v
  unfolding eq neg settled_of lt
  stays v = rw (nothing, least) (go v)
    where
      size : (s : Bool) (m : ℕ) (e : ℤ) → eq (fin s m e) (fin false 0 (pos 0)) ≡ false → (ltb 0 m && is_tiny m e) ≡ false → is_tiny m e ≡ false
      size s zero e z h = never (sym (zero_test s zero e false z))
      size s (suc m) e z h = sym (simp (lt-ltb 0 (suc m) (omega arith))) ∙ h

      go : (v : Float) → eq v (inf false) ≡ false → eq v (inf true) ≡ false
          → (lt (fin false 0 (pos 0)) v && lt v (fin false 1 (negsuc 125))) ≡ false
          → (lt v (fin false 0 (pos 0)) && lt (neg (fin false 1 (negsuc 125))) v) ≡ false
          → eq v (fin false 0 (pos 0)) ≡ false
          → Number v false ≡ settled_of exact v
      go nan o t p n z = refl
      go (inf true) o t p n z = never (sym t)
      go (inf false) o t p n z = never (sym o)
      go (fin false m e) o t p n z = whole false m e (size false m e z (sym (positive-tests m e) ∙ p))
      go (fin true m e) o t p n z = whole true m e (size true m e z (sym (negative-tests m e) ∙ n))
