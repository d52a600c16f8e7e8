-- Two finite floats compare as their values do, and a sum or product is zero as the values say. Assumes nothing.
use Prim.Native.Nat.{ℕ, zero, suc, ◌+◌, ◌-◌, ◌*◌, ◌/◌, ◌%◌, ◌^◌, ◌<◌, ◌≤◌}
use mathlib.Core.Path.{◌≡◌, refl, sym, subst, ◌∙◌, ap}
use mathlib.Core.Bool.{Bool, true, false, not, ◌&&◌, ◌||◌, beq, cond, and-false}
use native.Mathlib.Decide.{dec_lt, ℕ_discrete}
use native.Mathlib.Nat.{zero-mul, add-mul, mul-pos}
use native.Mathlib.Omega.{arith}
use borrow.Author.Tests.{lt-ltb, le-ltb, eq-eqb, ne_eqb}
use lib.Dec.{ltb, leb, eqb}
use lib.Pow.{pow_pos}
use lib.IntN.{ℤ, pos, negsuc, neg_ℤ, nat_abs, ◌+ℤ◌, ◌*ℤ◌}
use lib.Signed.{lt_z}
use lib.Ieee.{Float, nan, inf, fin, up, down, below, level, lt, eq, unlike}
use lib.Ieee.Exact.{HasValue}
use lib.Ieee.Fits.{down_pos}
use Rattle.word.proofs.Choices.{less-same}
use Rattle.processor_float_laws.specs.Exact.{signed_size}
use Rattle.processor_float_laws.proofs.Reading.{cross-lt, cross-eq, cross-sum}
use Rattle.processor_float_laws.proofs.Signs.{size_of, sum_alike, sum_less, sum_more, times}
use Rattle.processor_float_laws.proofs.Rounds.{ltb-scaled}

abbrev L : ℕ
L = 2 ^ 149

-- `below` and `level` of lib.Ieee on sizes over one denominator
module _ (m n a b : ℕ) (e d : ℤ) (p : m * up e * L ≡ a * down e) (q : n * up d * L ≡ b * down d) where
  less : ltb (m * up e * down d) (n * up d * down e) ≡ ltb a b
  less = cross-lt (m * up e) (n * up d) (down e) (down d) a b L (pow_pos 149) (down_pos e) (down_pos d) p q

  more : ltb (n * up d * down e) (m * up e * down d) ≡ ltb b a
  more = cross-lt (n * up d) (m * up e) (down d) (down e) b a L (pow_pos 149) (down_pos d) (down_pos e) q p

  same : eqb (m * up e * down d) (n * up d * down e) ≡ eqb a b
  same = cross-eq (m * up e) (n * up d) (down e) (down d) a b L (pow_pos 149) (down_pos e) (down_pos d) p q

  none : eqb (m * up e * down d) 0 ≡ eqb a 0
  none =
      ap (λ (z : ℕ). eqb (m * up e * down d) z) (sym (zero-mul (down e)))
      ∙ cross-eq (m * up e) 0 (down e) (down d) a 0 L (pow_pos 149) (down_pos e) (down_pos d) p (zero-mul L ∙ sym (zero-mul (down d)))

  some : ltb 0 (m * up e * down d + n * up d * down e) ≡ ltb 0 (a + b)
  some = cross-sum (m * up e) (n * up d) (down e) (down d) a b L (pow_pos 149) (down_pos e) (down_pos d) p q

  below-same : (s t : Bool) → below s (m * up e * down d) t (n * up d * down e) ≡ below s a t b
  below-same false false = less
  below-same false true = refl
  below-same true false = some
  below-same true true = more

  level-same : (s t : Bool) → level s (m * up e * down d) t (n * up d * down e) ≡ level s a t b
  level-same s t =
      ap (λ (z : Bool). z && (beq s t || eqb (m * up e * down d) 0)) same
      ∙ ap (λ (z : Bool). eqb a b && (beq s t || z)) none

pub lt-values : (x y : Float) (s t : Bool) (a b : ℕ) → HasValue x s a L → HasValue y t b L → lt x y ≡ below s a t b
unfolding lt
lt-values nan y s t a b h k = absurd h
lt-values (inf u) y s t a b h k = absurd h
lt-values (fin u m e) nan s t a b h k = absurd k
lt-values (fin u m e) (inf v) s t a b h k = absurd k
lt-values (fin u m e) (fin v n d) s t a b h k =
    below-same m n a b e d h.1 k.1 u v ∙ ap (λ (w : Bool). below w a v b) h.0 ∙ ap (λ (w : Bool). below s a w b) k.0

pub eq-values : (x y : Float) (s t : Bool) (a b : ℕ) → HasValue x s a L → HasValue y t b L → eq x y ≡ level s a t b
unfolding eq
eq-values nan y s t a b h k = absurd h
eq-values (inf u) y s t a b h k = absurd h
eq-values (fin u m e) nan s t a b h k = absurd k
eq-values (fin u m e) (inf v) s t a b h k = absurd k
eq-values (fin u m e) (fin v n d) s t a b h k =
    level-same m n a b e d h.1 k.1 u v ∙ ap (λ (w : Bool). level w a v b) h.0 ∙ ap (λ (w : Bool). level s a w b) k.0

-- the order of signed sizes is that of the whole numbers
pub below-is : (s t : Bool) (a b : ℕ) → lt_z (signed_size s a) (signed_size t b) ≡ below s a t b
below-is false false a b = refl
below-is false true a zero = le-ltb a 0 (omega arith)
below-is false true a (suc b) = refl
below-is true false zero b = ap (λ (z : ℕ). ltb 0 z) (sym (native.Mathlib.Nat.zero-add b))
below-is true false (suc a) b = sym (lt-ltb 0 (suc a + b) (omega arith))
below-is true true zero zero = refl
below-is true true zero (suc b) = sym (le-ltb (suc b) 0 (omega arith))
below-is true true (suc a) zero = sym (lt-ltb 0 (suc a) (omega arith))
below-is true true (suc a) (suc b) = less-same b a (suc b) (suc a) (λ h. omega arith) (λ h. omega arith)

-- a sum of signed sizes is zero where they are opposite
differs : (s : Bool) → beq s (not s) ≡ false
differs true = refl
differs false = refl

alike : (s : Bool) → beq s s ≡ true
alike true = refl
alike false = refl

zero-alike : (s : Bool) (a b : ℕ) → eqb (nat_abs (signed_size s a +ℤ signed_size s b)) 0 ≡ level s a (not s) b
zero-alike s a b =
    ap (λ (z : ℤ). eqb (nat_abs z) 0) (sum_alike s a b)
    ∙ ap (λ (z : ℕ). eqb z 0) (size_of s (a + b))
    ∙ elim (ℕ_discrete a 0) [
      | yes z ↦
          elim (ℕ_discrete b 0) [
            | yes y ↦ eq-eqb (a + b) 0 (omega arith) ∙ sym (rw (differs s) (simp (eq-eqb a b (omega arith), eq-eqb a 0 z)))
            | no y ↦ ne_eqb (a + b) 0 (λ k. y (omega arith)) ∙ sym (rw (differs s) (simp (ne_eqb a b (λ k. y (omega arith)))))
          ]
      | no z ↦ ne_eqb (a + b) 0 (λ k. z (omega arith)) ∙ sym (rw (differs s, ne_eqb a 0 z) (and-false (eqb a b)))
    ]

zero-unlike : (s : Bool) (a b : ℕ) → eqb (nat_abs (signed_size s a +ℤ signed_size (not s) b)) 0 ≡ level s a s b
zero-unlike s a b =
    elim (dec_lt a b) [
      | yes h ↦
          ap (λ (z : ℤ). eqb (nat_abs z) 0) (sum_less s a b h)
          ∙ ap (λ (z : ℕ). eqb z 0) (size_of (not s) (b - a))
          ∙ ne_eqb (b - a) 0 (λ k. omega arith)
          ∙ sym (simp (ne_eqb a b (λ k. omega arith)))
      | no h ↦
          let g : b ≤ a = omega arith in
          ap (λ (z : ℤ). eqb (nat_abs z) 0) (sum_more s a b g)
          ∙ ap (λ (z : ℕ). eqb z 0) (size_of (s && ltb b a) (a - b))
          ∙ elim (ℕ_discrete a b) [
            | yes e ↦ eq-eqb (a - b) 0 (omega arith) ∙ sym (rw (alike s, eq-eqb a b e))
            | no e ↦ ne_eqb (a - b) 0 (λ k. e (omega arith)) ∙ sym (simp (ne_eqb a b e))
          ]
    ]

pub zero-sum : (s t : Bool) (a b : ℕ) → eqb (nat_abs (signed_size s a +ℤ signed_size t b)) 0 ≡ level s a (not t) b
zero-sum true true a b = zero-alike true a b
zero-sum false false a b = zero-alike false a b
zero-sum true false a b = zero-unlike true a b
zero-sum false true a b = zero-unlike false a b
