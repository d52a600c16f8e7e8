-- A rounded result is nearest to the exact one, over whole numbers with their signs. Assumes nothing.
use Prim.Native.Nat.{ℕ, zero, suc, ◌+◌, ◌-◌, ◌*◌, ◌/◌, ◌%◌, ◌^◌, ◌<◌, ◌≤◌}
use mathlib.Core.Path.{◌≡◌, refl, sym, subst, ◌∙◌, ap}
use mathlib.Core.Logic.{◌≢◌}
use mathlib.Core.Bool.{Bool, true, false, not, ◌&&◌}
use native.Mathlib.Decide.{dec_lt, ℕ_discrete}
use native.Mathlib.Nat.{zero-mul, zero-add, mul-pos, lt_irrefl, zero-lt-suc}
use native.Mathlib.Omega.{arith}
use lib.Dec.{T, ltb, leb}
use lib.IntN.{ℤ, pos, neg_ℤ, nat_abs, ◌+ℤ◌, ◌-ℤ◌, ◌*ℤ◌}
use lib.Pow.{pow_pos}
use lib.Ieee.{Float, binary32, unlike, to_bits, round}
use lib.Ieee.Fits.{round-fits}
use lib.Ieee.Order.{drop, kept}
use Rattle.processor_float.specs.Operand.{units_of, value_of}
use Rattle.processor_float_laws.specs.Nearest.{Finite, distance_of, NearestEven}
use Rattle.processor_float_laws.specs.Rounded.{dropped_of, significand_of, rounded_of}
use Rattle.processor_float_laws.specs.Exact.{signed_size}
use Rattle.processor_float_laws.proofs.Grid.{apart, nearest-rounded}
use Rattle.processor_float_laws.proofs.Signs.{size_of, opposite, signed-value, times, sum_alike, sum_less, sum_more}
use Rattle.processor_float_laws.proofs.Settled.{round_number}
use Rattle.processor_float_laws.proofs.Words.{WordOf, word_of, Digits, digits-of, even-word, kept-most}

pub pos-times : (s : Bool) (a b : ℕ) → signed_size s a *ℤ pos b ≡ signed_size s (a * b)
pos-times true a b = times true false a b
pos-times false a b = refl

-- two signed sizes with one sign, and with two
apart-alike : (s : Bool) (a b : ℕ) → nat_abs (signed_size s a -ℤ signed_size s b) ≡ apart a b
apart-alike s a b =
    ap (λ (z : ℤ). nat_abs (signed_size s a +ℤ z)) (opposite s b)
    ∙ elim (dec_lt a b) [
      | yes h ↦ ap nat_abs (sum_less s a b h) ∙ size_of (not s) (b - a) ∙ omega arith
      | no h ↦
          let g : b ≤ a = omega arith in
          ap nat_abs (sum_more s a b g) ∙ size_of (s && ltb b a) (a - b) ∙ omega arith
    ]

apart-unlike : (s : Bool) (a b : ℕ) → nat_abs (signed_size (not s) a -ℤ signed_size s b) ≡ a + b
apart-unlike s a b =
    ap (λ (z : ℤ). nat_abs (signed_size (not s) a +ℤ z)) (opposite s b)
    ∙ ap nat_abs (sum_alike (not s) a b)
    ∙ size_of (not s) (a + b)

abbrev far : Bool → ℕ → ℕ → ℤ → ℕ
far s n d v = nat_abs (v *ℤ pos d -ℤ signed_size s n *ℤ pos (2 ^ 149))

-- the distance of a signed size from the exact result, of the same sign or the other
far-alike : (s : Bool) (n d a : ℕ) → far s n d (signed_size s a) ≡ apart (a * d) (n * 2 ^ 149)
far-alike s n d a =
    ap (λ (z : ℤ). nat_abs (z -ℤ signed_size s n *ℤ pos (2 ^ 149))) (pos-times s a d)
    ∙ ap (λ (z : ℤ). nat_abs (signed_size s (a * d) -ℤ z)) (pos-times s n (2 ^ 149))
    ∙ apart-alike s (a * d) (n * 2 ^ 149)

far-unlike : (s : Bool) (n d a : ℕ) → far s n d (signed_size (not s) a) ≡ a * d + n * 2 ^ 149
far-unlike s n d a =
    ap (λ (z : ℤ). nat_abs (z -ℤ signed_size s n *ℤ pos (2 ^ 149))) (pos-times (not s) a d)
    ∙ ap (λ (z : ℤ). nat_abs (signed_size (not s) (a * d) -ℤ z)) (pos-times s n (2 ^ 149))
    ∙ apart-unlike s (a * d) (n * 2 ^ 149)

by_sign : (P : Bool → Type 0) (s t : Bool) → P s → P (not s) → P t
by_sign P true true p q = p
by_sign P true false p q = q
by_sign P false true p q = q
by_sign P false false p q = p

apart-zero : (x : ℕ) → apart 0 x ≡ x
apart-zero x = omega arith

no_place : 1 ≤ 24
no_place = omega arith

module _ (s : Bool) (n d : ℕ) (D : 0 < d) where
  abbrev R : ℕ
  R = rounded_of n d

  abbrev near : (y j : ℕ) → y < 2 ^ 24 → (apart (R * d) (n * 2 ^ 149) ≤ apart (y * 2 ^ j * d) (n * 2 ^ 149)) × (apart
      (R * d) (n * 2 ^ 149) ≡ apart (y * 2 ^ j * d) (n * 2 ^ 149) → y * 2 ^ j ≢ R → significand_of n d % 2 ≡ 0)
  near y j h = nearest-rounded 24 (n * 2 ^ 149) d no_place D y j h

  nothing : 0 * 2 ^ 0 * d ≡ 0
  nothing = ap (λ (x : ℕ). x * d) (zero-mul 1) ∙ zero-mul d

  -- no further from it than zero is
  at_most : apart (R * d) (n * 2 ^ 149) ≤ n * 2 ^ 149
  at_most =
      subst (λ (x : ℕ). apart (R * d) (n * 2 ^ 149) ≤ x) (ap (λ (x : ℕ). apart x (n * 2 ^ 149)) nothing ∙ apart-zero (n * 2 ^ 149))
      (near 0 0 (pow_pos 24)).0

  nearer : (t : Bool) (y j a : ℕ) → y < 2 ^ 24 → a ≡ y * 2 ^ j → apart (R * d) (n * 2 ^ 149) ≤ far s n d (signed_size t a)
  nearer t y j a h e =
      by_sign (λ (b : Bool). apart (R * d) (n * 2 ^ 149) ≤ far s n d (signed_size b a)) s t
      (subst (λ (x : ℕ). apart (R * d) (n * 2 ^ 149) ≤ x) (sym (far-alike s n d a))
      (subst (λ (x : ℕ). apart (R * d) (n * 2 ^ 149) ≤ apart (x * d) (n * 2 ^ 149)) (sym e) (near y j h).0))
      (subst (λ (x : ℕ). apart (R * d) (n * 2 ^ 149) ≤ x) (sym (far-unlike s n d a)) (more (a * d) (apart (R * d) (n * 2 ^ 149)) (n * 2 ^ 149) at_most))
    where
      more : (i j k : ℕ) → j ≤ k → j ≤ i + k
      more i j k h = omega arith

  abbrev Tie : Bool → ℕ → Type 0
  Tie t a = apart (R * d) (n * 2 ^ 149) ≡ far s n d (signed_size t a) → signed_size t a ≢ signed_size s R → significand_of n d % 2 ≡ 0

  tie : (t : Bool) (y j a : ℕ) → y < 2 ^ 24 → a ≡ y * 2 ^ j → Tie t a
  tie t y j a h e =
      by_sign (λ (b : Bool). Tie b a) s t
      (λ q ne.
      (near y j h).1 (q ∙ far-alike s n d a ∙ ap (λ (x : ℕ). apart (x * d) (n * 2 ^ 149)) e) (λ z. ne (ap (signed_size s) (e ∙ z))))
      (λ q ne.
      let f : apart (R * d) (n * 2 ^ 149) ≡ a * d + n * 2 ^ 149 = q ∙ far-unlike s n d a in
      let z : a * d ≡ 0 = only (a * d) (apart (R * d) (n * 2 ^ 149)) (n * 2 ^ 149) at_most f in
      let none : a ≡ 0 = no-factor a d D z in
      (near 0 0 (pow_pos 24)).1
      (f ∙ ap (λ (x : ℕ). x + n * 2 ^ 149) z ∙ zero-add (n * 2 ^ 149) ∙ sym (ap (λ (x : ℕ). apart x (n * 2 ^ 149)) nothing ∙ apart-zero (n * 2 ^ 149)))
      (λ r. ne (ap (signed_size (not s)) none ∙ unsigned s ∙ ap (signed_size s) r)))
    where
      only : (i j k : ℕ) → j ≤ k → j ≡ i + k → i ≡ 0
      only i j k h e = omega arith

      no-factor : (i j : ℕ) → 0 < j → i * j ≡ 0 → i ≡ 0
      no-factor zero j h e = refl
      no-factor (suc i) j h e = absurd (lt_irrefl 0 (subst (λ (x : ℕ). 0 < x) e (mul-pos (zero-lt-suc i) h)))

      unsigned : (b : Bool) → signed_size (not b) 0 ≡ signed_size b 0
      unsigned true = refl
      unsigned false = refl

  -- the word of a rounded result that is 2 ^ -126 or more
  pub rounded-nearest : (v : Float) (r : ℕ) → WordOf v s R r → 2 ^ 23 ≤ R → NearestEven (signed_size s n) d r
  rounded-nearest v r w l =
      let here : distance_of (signed_size s n) d r ≡ apart (R * d) (n * 2 ^ 149) = ap (far s n d) w.valued ∙ far-alike s n d R in
      record {
        nearest =
            λ z f.
            let g = digits-of z in
            subst (λ (x : ℕ). x ≤ distance_of (signed_size s n) d z) (sym here)
            (subst (λ (x : ℤ). apart (R * d) (n * 2 ^ 149) ≤ far s n d x) (sym (signed-value z (units_of z)))
            (nearer (leb (2 ^ 31) z) g.digits g.place (units_of z) g.few g.make));
        even =
            λ z f e ne.
            let g = digits-of z in
            even-word r (significand_of n d) (dropped_of n d) w.sized l (kept-most n d)
            (tie (leb (2 ^ 31) z) g.digits g.place (units_of z) g.few g.make
            (sym here ∙ e ∙ ap (far s n d) (signed-value z (units_of z)))
            (λ x. ne (signed-value z (units_of z) ∙ x ∙ sym w.valued)));
      }
