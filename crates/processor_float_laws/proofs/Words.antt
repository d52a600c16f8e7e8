-- The word of a rounded result: its sign, its size, and that it is even where the kept digits are. Assumes nothing.
use Prim.Native.Nat.{ℕ, zero, suc, ◌+◌, ◌-◌, ◌*◌, ◌/◌, ◌%◌, ◌^◌, ◌<◌, ◌≤◌, compare}
use mathlib.Core.Path.{◌≡◌, refl, sym, subst, ◌∙◌, ap}
use mathlib.Core.Bool.{Bool, true, false, not, ◌&&◌, cond}
use native.Mathlib.Decide.{dec_lt, ℕ_discrete}
use native.Mathlib.Nat.{mul_assoc, mul_comm, mul-pos, mul-le-mul, mul-le-mul_right, mul-le-mul_left, mul-one}
use native.Mathlib.Nat.{eq_of_mul-eq-mul_right, div-div-eq-div-mul, pow-succ', le_trans, le_of_eq, lt_of_lt_of_le}
use native.Mathlib.Omega.{arith}
use borrow.Author.Tests.{lt-ltb, le-ltb, eq-eqb, ne_eqb}
use lib.Dec.{T, ltb, leb, eqb}
use lib.Pow.{field, mod-pow-add, pow_pos, pow-add, pow_mono}
use lib.IntN.{ℤ, pos, neg_ℤ, nat_abs}
use lib.Ieee.{Float, nan, inf, fin, binary32, up, down, size, odd, of_fields, of_bits, to_bits, fits, round}
use lib.Ieee.Bits.{of_bits-to_bits, to_bits-lt}
use lib.Ieee.Exact.{HasValue}
use lib.Ieee.Fits.{down_pos, nearest-le, kept-lt, round-fits}
use lib.Ieee.Nearest.{closest}
use Rattle.processor_float.specs.Operand.{exponent_of, digits_of, units_in, units_of, signed_by, value_of, float_of}
use Rattle.processor_float_laws.specs.Nearest.{Finite}
use Rattle.processor_float_laws.specs.Rounded.{dropped_of, significand_of, rounded_of}
use Rattle.processor_float_laws.specs.Exact.{signed_size}
use Rattle.processor_float_laws.proofs.Reading.{reading}
use Rattle.processor_float_laws.proofs.Signs.{signed-value}
use Rattle.processor_float_laws.proofs.Settled.{round_number}
use Rattle.processor_float_laws.proofs.Grid.{Closest, closest-is}

-- ---- a word whose float is a number is finite

special : (s : Bool) (e t : ℕ) (u : Bool) (r : ℕ) → e ≡ 255 → HasValue (of_fields binary32 s e t) u r (2 ^ 149) → ⊥
unfolding of_fields
special s zero t u r h v = absurd (omega arith)
special s (suc x) t u r h v = go (eqb t 0) (subst (λ (b : Bool). HasValue (cond b (cond (eqb t 0) (inf s) nan) (odd 24 s
    (2 ^ 23 + t) x 149)) u r (2 ^ 149)) (eq-eqb (suc x) 255 h) v)
  where
    go : (b : Bool) → HasValue (cond b (inf s) nan) u r (2 ^ 149) → ⊥
    go true v = v
    go false v = v

finite-word : (w : ℕ) (u : Bool) (r : ℕ) → HasValue (float_of w) u r (2 ^ 149) → Finite w
unfolding of_bits
finite-word w u r v =
    let e : w % 2 ^ 31 / 2 ^ 23 ≡ exponent_of w = field w 8 23 in
    elim (dec_lt (w % 2 ^ 31) 0x7F800000) [
      | yes h ↦ h
      | no h ↦ absurd (special (leb (2 ^ 31) w) (w % 2 ^ 31 / 2 ^ 23) (digits_of w) u r (omega (arith, mod-pow-add w 8 23)) v)
    ]

-- the sign and the size of a number are one
same-value : (v : Float) (s t : Bool) (a b : ℕ) → HasValue v s a (2 ^ 149) → HasValue v t b (2 ^ 149) → (s ≡ t) × (a ≡ b)
same-value nan s t a b h k = absurd h
same-value (inf u) s t a b h k = absurd h
same-value (fin u m e) s t a b h k = (sym h.0 ∙ k.0, eq_of_mul-eq-mul_right (down e) (down_pos e) a b (sym h.1 ∙ k.1))

pub record WordOf (v : Float) (s : Bool) (a w : ℕ) : Type 0 where
  pub below : w < 2 ^ 32
  pub finite : Finite w
  pub reads : float_of w ≡ v
  pub sized : units_of w ≡ a
  pub valued : value_of w ≡ signed_size s a

-- the word of a number that fits
pub word_of : (v : Float) (s : Bool) (a : ℕ) → T (fits binary32 v) → HasValue v s a (2 ^ 149) → WordOf v s a (to_bits binary32 v)
word_of v s a f h =
    let w = to_bits binary32 v in
    let back : float_of w ≡ v = of_bits-to_bits binary32 v f in
    let here : HasValue (float_of w) s a (2 ^ 149) = subst (λ (u : Float). HasValue u s a (2 ^ 149)) (sym back) h in
    let fine : Finite w = finite-word w s a here in
    let one = same-value (float_of w) (leb (2 ^ 31) w) s (units_of w) a (reading w fine) here in
    record {
      below = to_bits-lt binary32 v f;
      finite = fine;
      reads = back;
      sized = one.1;
      valued = signed-value w (units_of w) ∙ ap (λ (b : Bool). signed_size b (units_of w)) one.0 ∙ ap (signed_size s) one.1;
    }

-- ---- the digits of a finite word

pub record Digits (w : ℕ) : Type 0 where
  pub digits : ℕ
  pub place : ℕ
  pub few : digits < 2 ^ 24
  pub make : units_of w ≡ digits * 2 ^ place

units-digits : (e t : ℕ) → t < 2 ^ 23 → (y : ℕ) × (j : ℕ) × (y < 2 ^ 24) × (units_in e t ≡ y * 2 ^ j)
units-digits zero t h = (t, 0, omega arith, sym (mul-one t))
units-digits (suc x) t h = (2 ^ 23 + t, x, omega arith, refl)

pub digits-of : (w : ℕ) → Digits w
unfolding units_of
digits-of w =
    let d = units-digits (exponent_of w) (digits_of w) (omega arith) in
    record { digits = d.0; place = d.1; few = d.2; make = d.3 }

-- ---- the word is even where the kept digits are

twice-even : (n d : ℕ) → n * 2 ^ suc d % 2 ≡ 0
twice-even n d =
    let e : n * 2 ^ suc d ≡ 2 * (n * 2 ^ d) = ap (λ (x : ℕ). n * x) (pow-succ' 2 d) ∙ sym (mul_assoc n 2 (2 ^ d)) ∙ ap
    (λ (x : ℕ). x * 2 ^ d) (mul_comm n 2) ∙ mul_assoc 2 n (2 ^ d) in
    omega arith

module _ (m x q k : ℕ) (e : m * 2 ^ x ≡ q * 2 ^ k) where
  cancel : (i j d : ℕ) (a b : ℕ) → a * 2 ^ i ≡ b * 2 ^ j → i + d ≡ j → a ≡ b * 2 ^ d
  cancel i j d a b h s =
      eq_of_mul-eq-mul_right (2 ^ i) (pow_pos i) a (b * 2 ^ d)
      (h ∙ ap (λ (n : ℕ). b * 2 ^ n) (sym s) ∙ ap (λ (n : ℕ). b * n) (pow-add 2 i d ∙ mul_comm (2 ^ i) (2 ^ d)) ∙ sym (mul_assoc b (2 ^ d) (2 ^ i)))

  same-parity : 2 ^ 23 ≤ m → q ≤ 2 ^ 24 → q % 2 ≡ 0 → m % 2 ≡ 0
  same-parity M Q z =
      elim (dec_lt x k) [
        | yes h ↦
            let d = k - suc x in
            let s : x + suc (k - suc x) ≡ k = omega arith in
            ap (λ (n : ℕ). n % 2) (cancel x k (suc d) m q e s) ∙ twice-even q d
        | no h ↦
            elim (dec_lt k x) [
              | yes g ↦
                  let d = x - suc k in
                  let s : k + suc (x - suc k) ≡ x = omega arith in
                  let c : q ≡ m * 2 ^ suc d = cancel k x (suc d) q m (sym e) s in
                  let p : m * 2 ^ suc d ≡ 2 * (m * 2 ^ d) = ap (λ (n : ℕ). m * n) (pow-succ' 2 d) ∙ sym (mul_assoc m 2
                  (2 ^ d)) ∙ ap (λ (n : ℕ). n * 2 ^ d) (mul_comm m 2) ∙ mul_assoc 2 m (2 ^ d) in
                  let l : m * 1 ≤ m * 2 ^ d = mul-le-mul_left m (pow_pos d) in
                  omega arith
              | no g ↦
                  let s : x + 0 ≡ k = omega arith in
                  let c : m ≡ q * 2 ^ 0 = cancel x k 0 m q e s in
                  omega arith
            ]
      ]

normal-digits : (e t a : ℕ) → t < 2 ^ 23 → 2 ^ 23 ≤ a → units_in e t ≡ a → (x : ℕ) × ((2 ^ 23 + t) * 2 ^ x ≡ a)
normal-digits zero t a h l u = absurd (omega arith)
normal-digits (suc x) t a h l u = (x, u)

pub even-word : (w q k : ℕ) → units_of w ≡ q * 2 ^ k → 2 ^ 23 ≤ q * 2 ^ k → q ≤ 2 ^ 24 → q % 2 ≡ 0 → w % 2 ≡ 0
unfolding units_of
even-word w q k u l Q z =
    let d = normal-digits (exponent_of w) (digits_of w) (q * 2 ^ k) (omega arith) l u in
    let p : (2 ^ 23 + digits_of w) % 2 ≡ 0 = same-parity (2 ^ 23 + digits_of w) d.0 q k d.1 (omega arith) Q z in
    omega arith

-- 24 digits are kept at most, and one more number
pub kept-most : (num den : ℕ) → significand_of num den ≤ 2 ^ 24
kept-most num den =
    let n = num * 2 ^ 149 in
    let k = dropped_of num den in
    le_trans (nearest-le (n / (den * 2 ^ k)) (compare (n % (den * 2 ^ k) * 2) (den * 2 ^ k)))
    (subst (λ (x : ℕ). x < 2 ^ 24) (div-div-eq-div-mul n den (2 ^ k)) (kept-lt 24 (n / den)))
