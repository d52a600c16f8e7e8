-- Each of the four operations on finite words is one rounding of its exact result. Assumes nothing.
use Prim.Native.Nat.{ℕ, zero, suc, ◌+◌, ◌-◌, ◌*◌, ◌/◌, ◌%◌, ◌^◌, ◌<◌, ◌≤◌}
use mathlib.Core.Path.{◌≡◌, refl, sym, subst, ◌∙◌, ap}
use mathlib.Core.Bool.{Bool, true, false, not, ◌&&◌, ◌||◌, beq, cond}
use native.Mathlib.Decide.{dec_lt, ℕ_discrete}
use native.Mathlib.Nat.{mul_assoc, mul_comm, mul_left_comm, mul_right_comm, mul-pos, add-mul, mul-one, one-mul}
use native.Mathlib.Nat.{zero-mul, eq_of_mul-eq-mul_right, lt_irrefl, mul-sub, mul-lt-mul_of_pos_right}
use native.Mathlib.Nat.{lt_of_mul-lt-mul_right}
use native.Mathlib.Omega.{arith}
use borrow.Author.Tests.{lt-ltb, le-ltb, eq-eqb, ne_eqb, leb-true, leb-false}
use lib.Dec.{T, ltb, leb, eqb}
use lib.Pow.{pow_pos}
use lib.IntN.{ℤ, pos, negsuc, neg_ℤ, nat_abs, ◌+ℤ◌, ◌-ℤ◌, ◌*ℤ◌}
use lib.Ieee.{Float, nan, inf, fin, binary32, unlike, up, down, round, neg, sum, add, sub, mul, div}
use lib.Ieee.Exact.{HasValue}
use lib.Ieee.Fits.{down_pos, up_pos}
use lib.Ieee.Scale.{round_same}
use Rattle.word.proofs.Choices.{less-same}
use Rattle.processor_float.specs.Operand.{units_of, value_of, signed_by, float_of}
use Rattle.processor_float.specs.Arithmetic.{computed_of}
use Rattle.processor_float.specs.declared.Operation.{Operation}
use Rattle.processor_float.specs.declared.Operation.TheVariants.{Add, Subtract, Multiply, Divide}
use Rattle.processor_float_laws.specs.Nearest.{Finite}
use Rattle.processor_float_laws.specs.Exact.{signed_size, numerator_of, denominator_of, zero_sign_of}
use Rattle.processor_float_laws.proofs.Reading.{reading}
use Rattle.processor_float_laws.proofs.Signs.{size_of, opposite, signed-value, times, sum_alike, sum_less, sum_more}

-- v is num / den, rounded once, with the sign `zeros` where it is zero
pub record Rounds (v : Float) (num : ℤ) (den : ℕ) (zeros : Bool) : Type 0 where
  pub sign : Bool
  pub is : v ≡ round binary32 sign (nat_abs num) den
  pub agrees : num ≡ signed_size sign (nat_abs num)
  pub zero-sign : nat_abs num ≡ 0 → sign ≡ zeros

rounds-by : (v : Float) (num : ℤ) (den : ℕ) (zeros s : Bool) (n : ℕ) → v ≡ round binary32 s n den → num ≡ signed_size s n
    → (n ≡ 0 → s ≡ zeros)
    → Rounds v num den zeros
rounds-by v num den zeros s n e a h =
    let z : nat_abs num ≡ n = ap nat_abs a ∙ size_of s n in
    record {
      sign = s;
      is = e ∙ ap (λ (k : ℕ). round binary32 s k den) (sym z);
      agrees = a ∙ ap (signed_size s) (sym z);
      zero-sign = λ k. h (sym z ∙ k);
    }

abbrev L : ℕ
L = 2 ^ 149

-- ---- products and quotients

mul-numbers : (s t : Bool) (m n a b : ℕ) (e d : ℤ) → m * up e * L ≡ a * down e → n * up d * L ≡ b * down d
    → mul binary32 (fin s m e) (fin t n d) ≡ round binary32 (unlike s t) (a * b) (2 ^ 298)
unfolding mul
mul-numbers s t m n a b e d p q =
    round_same binary32 (unlike s t) (m * up e * (n * up d)) (down e * down d) (a * b) (2 ^ 298) (mul-pos (down_pos e) (down_pos d)) (pow_pos 298)
    (cross (m * up e) (n * up d) (down e) (down d) L p q)
  where
    cross : (x y f g l : ℕ) → x * l ≡ a * f → y * l ≡ b * g → x * y * (l * l) ≡ a * b * (f * g)
    cross x y f g l p q = native.Mathlib.Nat.mul-mul-mul_comm x y l l ∙ ap (λ (k : ℕ). k * (y * l)) p ∙ ap (λ
        (k : ℕ). a * f * k) q ∙ native.Mathlib.Nat.mul-mul-mul_comm a f b g

pub mul-values : (x y : Float) (s t : Bool) (a b : ℕ) → HasValue x s a L → HasValue y t b L → mul binary32 x y ≡ round binary32 (unlike s t) (a * b) (2 ^ 298)
mul-values nan y s t a b h k = absurd h
mul-values (inf u) y s t a b h k = absurd h
mul-values (fin u m e) nan s t a b h k = absurd k
mul-values (fin u m e) (inf v) s t a b h k = absurd k
mul-values (fin u m e) (fin v n d) s t a b h k =
    mul-numbers u v m n a b e d h.1 k.1 ∙ ap (λ (w : Bool). round binary32 (unlike w v) (a * b) (2 ^ 298)) h.0
    ∙ ap (λ (w : Bool). round binary32 (unlike s w) (a * b) (2 ^ 298)) k.0

pub positive : (n : ℕ) → eqb n 0 ≡ false → 0 < n
positive zero h = absurd (subst T h tt)
positive (suc n) h = omega arith

not_none : (n k b d : ℕ) → n * k ≡ b * d → 0 < b → 0 < d → n ≡ 0 → ⊥
not_none n k b d e B D z = lt_irrefl 0 (subst (λ (x : ℕ). 0 < x) (sym e ∙ ap (λ (x : ℕ). x * k) z ∙ zero-mul k) (mul-pos B D))

div-numbers : (s t : Bool) (m n a b : ℕ) (e d : ℤ) → 0 < b → m * up e * L ≡ a * down e → n * up d * L ≡ b * down d
    → div binary32 (fin s m e) (fin t n d) ≡ round binary32 (unlike s t) a b
unfolding div
div-numbers s t m n a b e d B p q =
    let no : eqb n 0 ≡ false = ne_eqb n 0 (λ z. not_none n (up d * L) b (down d) (sym (mul_assoc n (up d) L) ∙ q) B (down_pos d) z) in
    ap (λ (c : Bool). cond c (cond (eqb m 0) nan (inf (unlike s t))) (round binary32 (unlike s t) (m * up e * down d) (n * up d * down e))) no
    ∙ round_same binary32 (unlike s t) (m * up e * down d) (n * up d * down e) a b (mul-pos (mul-pos (positive n no) (up_pos d)) (down_pos e)) B
    (cross (m * up e) (n * up d) (down e) (down d) L (pow_pos 149) p q)
  where
    cross : (x y f g l : ℕ) → 0 < l → x * l ≡ a * f → y * l ≡ b * g → x * g * b ≡ a * (y * f)
    cross x y f g l h p q =
        eq_of_mul-eq-mul_right l h (x * g * b) (a * (y * f))
        (mul_right_comm (x * g) b l
        ∙ ap (λ (k : ℕ). k * b) (mul_right_comm x g l ∙ ap (λ (k : ℕ). k * g) p)
        ∙ simp (mul_assoc, mul_comm, mul_left_comm) (simp (mul_assoc, mul_comm, mul_left_comm) at (ap (λ (k : ℕ). a * f * k) (sym q))))

pub div-values : (x y : Float) (s t : Bool) (a b : ℕ) → 0 < b → HasValue x s a L → HasValue y t b L → div binary32 x y ≡ round binary32 (unlike s t) a b
div-values nan y s t a b B h k = absurd h
div-values (inf u) y s t a b B h k = absurd h
div-values (fin u m e) nan s t a b B h k = absurd k
div-values (fin u m e) (inf v) s t a b B h k = absurd k
div-values (fin u m e) (fin v n d) s t a b B h k =
    div-numbers u v m n a b e d B h.1 k.1 ∙ ap (λ (w : Bool). round binary32 (unlike w v) a b) h.0 ∙ ap (λ
    (w : Bool). round binary32 (unlike s w) a b) k.0

-- ---- sums

pub ltb-scaled : (i j c : ℕ) → 0 < c → ltb (i * c) (j * c) ≡ ltb i j
ltb-scaled i j c C = less-same (i * c) (j * c) i j (lt_of_mul-lt-mul_right c) (λ h. mul-lt-mul_of_pos_right h C)

difference-times : (i j k : ℕ) → (i - j) * k ≡ i * k - j * k
difference-times i j k = mul_comm (i - j) k ∙ mul-sub k i j ∙ ap (λ (z : ℕ). z - k * j) (mul_comm k i) ∙ ap (λ (z : ℕ). i * k - z) (mul_comm k j)

module _ (s t : Bool) (x y a b c l : ℕ) (C : 0 < c) (H : 0 < l) (p : x * l ≡ a * c) (q : y * l ≡ b * c) where
  alike : round binary32 s (x + y) c ≡ round binary32 s (a + b) l
  alike = round_same binary32 s (x + y) c (a + b) l C H (add-mul x y l ∙ ap (λ (z : ℕ). z + y * l) p ∙ ap (λ (z : ℕ). a * c + z) q ∙ sym (add-mul a b c))

  less : round binary32 t (y - x) c ≡ round binary32 t (b - a) l
  less = round_same binary32 t (y - x) c (b - a) l C H (difference-times y x l ∙ ap (λ (z : ℕ). z - x * l) q ∙ ap (λ
      (z : ℕ). b * c - z) p ∙ sym (difference-times b a c))

  more : (u : Bool) → round binary32 u (x - y) c ≡ round binary32 u (a - b) l
  more u = round_same binary32 u (x - y) c (a - b) l C H (difference-times x y l ∙ ap (λ (z : ℕ). z - y * l) p ∙ ap (λ
      (z : ℕ). a * c - z) q ∙ sym (difference-times a b c))

  below-same : ltb x y ≡ ltb a b
  below-same = sym (ltb-scaled x y l H) ∙ ap (λ (z : ℕ). ltb z (y * l)) p ∙ ap (λ (z : ℕ). ltb (a * c) z) q ∙ ltb-scaled a b c C

  above_same : ltb y x ≡ ltb b a
  above_same = sym (ltb-scaled y x l H) ∙ ap (λ (z : ℕ). ltb z (x * l)) q ∙ ap (λ (z : ℕ). ltb (b * c) z) p ∙ ltb-scaled b a c C

  cond_same : (β γ : Bool) (i j k i' j' k' : Float) → i ≡ i' → j ≡ j' → k ≡ k' → cond β i (cond γ j k) ≡ cond β i' (cond γ j' k')
  cond_same true γ i j k i' j' k' e f g = e
  cond_same false true i j k i' j' k' e f g = f
  cond_same false false i j k i' j' k' e f g = g

  sum_same : sum binary32 s x t y c ≡ sum binary32 s a t b l
  unfolding sum
  sum_same =
      ap (λ (β : Bool). cond (beq s t) (round binary32 s (x + y) c) (cond β (round binary32 t (y - x) c)
      (round binary32 (s && ltb y x) (x - y) c))) below-same
      ∙ ap (λ (β : Bool). cond (beq s t) (round binary32 s (x + y) c) (cond (ltb a b) (round binary32 t (y - x) c)
      (round binary32 (s && β) (x - y) c))) above_same
      ∙ cond_same (beq s t) (ltb a b) (round binary32 s (x + y) c) (round binary32 t (y - x) c) (round binary32 (s && ltb b a) (x - y) c)
      (round binary32 s (a + b) l) (round binary32 t (b - a) l) (round binary32 (s && ltb b a) (a - b) l) alike less (more (s && ltb b a))

add-values : (x y : Float) (s t : Bool) (a b : ℕ) → HasValue x s a L → HasValue y t b L → add binary32 x y ≡ sum binary32 s a t b L
unfolding add
add-values nan y s t a b h k = absurd h
add-values (inf u) y s t a b h k = absurd h
add-values (fin u m e) nan s t a b h k = absurd k
add-values (fin u m e) (inf v) s t a b h k = absurd k
add-values (fin u m e) (fin v n d) s t a b h k =
    sum_same u v (m * up e * down d) (n * up d * down e) a b (down e * down d) L (mul-pos (down_pos e) (down_pos d)) (pow_pos 149)
    (mul_right_comm (m * up e) (down d) L ∙ ap (λ (z : ℕ). z * down d) h.1 ∙ mul_assoc a (down e) (down d))
    (mul_right_comm (n * up d) (down e) L ∙ ap (λ (z : ℕ). z * down e) k.1 ∙ mul_assoc b (down d) (down e) ∙ ap (λ
    (z : ℕ). b * z) (mul_comm (down d) (down e)))
    ∙ ap (λ (w : Bool). sum binary32 w a v b L) h.0
    ∙ ap (λ (w : Bool). sum binary32 s a w b L) k.0

pub neg_value : (y : Float) (t : Bool) (b c : ℕ) → HasValue y t b c → HasValue (neg y) (not t) b c
unfolding neg
neg_value nan t b c h = absurd h
neg_value (inf u) t b c h = absurd h
neg_value (fin u n d) t b c h = (ap not h.0, h.1)

-- a sum of two signed sizes, rounded; a zero is negative where both are
sum-rounds : (s t : Bool) (a b c : ℕ) → Rounds (sum binary32 s a t b c) (signed_size s a +ℤ signed_size t b) c (s && t)
unfolding sum
sum-rounds true true a b c =
    rounds-by (round binary32 true (a + b) c) (signed_size true a +ℤ signed_size true b) c true true (a + b) refl (sum_alike true a b) (λ z. refl)
sum-rounds false false a b c =
    rounds-by (round binary32 false (a + b) c) (signed_size false a +ℤ signed_size false b) c false false (a + b) refl (sum_alike false a b) (λ z. refl)
sum-rounds true false a b c =
    elim (dec_lt a b) [
      | yes h ↦ rounds-by _ (signed_size true a +ℤ signed_size false b) c false false (b - a) (simp (lt-ltb a b h)) (sum_less true a b h) (λ z. refl)
      | no h ↦
          let g : b ≤ a = omega arith in
          rounds-by _ (signed_size true a +ℤ signed_size false b) c false (true && ltb b a) (a - b) (simp (le-ltb a b g)) (sum_more true a b g)
          (λ z. le-ltb b a (omega arith))
    ]
sum-rounds false true a b c =
    elim (dec_lt a b) [
      | yes h ↦ rounds-by _ (signed_size false a +ℤ signed_size true b) c false true (b - a) (simp (lt-ltb a b h))
          (sum_less false a b h) (λ z. absurd (omega arith))
      | no h ↦
          let g : b ≤ a = omega arith in
          rounds-by _ (signed_size false a +ℤ signed_size true b) c false (false && ltb b a) (a - b) (simp (le-ltb a b g)) (sum_more false a b g) (λ z. refl)
    ]

-- ---- the four operations

module _ (x y : ℕ) (hx : Finite x) (hy : Finite y) where
  abbrev s : Bool
  s = leb (2 ^ 31) x

  abbrev t : Bool
  t = leb (2 ^ 31) y

  add_rounds : Rounds (computed_of Add (float_of x) (float_of y)) (numerator_of Add x y) (2 ^ 149) (zero_sign_of Add x y)
  add_rounds =
      rw (add-values (float_of x) (float_of y) s t (units_of x) (units_of y) (reading x hx) (reading y hy), signed-value x (units_of x), signed-value y (units_of y))
      (sum-rounds s t (units_of x) (units_of y) (2 ^ 149))

  subtract-rounds : Rounds (computed_of Subtract (float_of x) (float_of y)) (numerator_of Subtract x y) (2 ^ 149) (zero_sign_of Subtract x y)
  unfolding sub
  subtract-rounds =
      rw (
        add-values (float_of x) (neg (float_of y)) s (not t) (units_of x) (units_of y) (reading x hx) (neg_value
            (float_of y) t (units_of y) L (reading y hy)),
        signed-value x (units_of x),
        signed-value y
            (units_of y),
        opposite t (units_of y),
      )
      (sum-rounds s (not t) (units_of x) (units_of y) (2 ^ 149))

  multiply-rounds : Rounds (computed_of Multiply (float_of x) (float_of y)) (numerator_of Multiply x y) (2 ^ 298) (zero_sign_of Multiply x y)
  multiply-rounds =
      rounds-by (computed_of Multiply (float_of x) (float_of y)) (numerator_of Multiply x y) (2 ^ 298) (unlike s t) (unlike s t) (units_of x * units_of y)
      (mul-values (float_of x) (float_of y) s t (units_of x) (units_of y) (reading x hx) (reading y hy))
      (ap (λ (z : ℤ). z *ℤ value_of y) (signed-value x (units_of x)) ∙ ap (λ (z : ℤ). signed_size s (units_of x) *ℤ z)
      (signed-value y (units_of y)) ∙ times s t (units_of x) (units_of y)) (λ z. refl)

  divide-rounds : 0 < units_of y → Rounds (computed_of Divide (float_of x) (float_of y)) (numerator_of Divide x y) (units_of y) (zero_sign_of Divide x y)
  divide-rounds B =
      rounds-by (computed_of Divide (float_of x) (float_of y)) (numerator_of Divide x y) (units_of y) (unlike s t) (unlike s t) (units_of x)
      (div-values (float_of x) (float_of y) s t (units_of x) (units_of y) B (reading x hx) (reading y hy))
      (by_sign (leb (2 ^ 31) y) refl) (λ z. refl)
    where
      unlike-false : (b : Bool) → unlike b false ≡ b
      unlike-false true = refl
      unlike-false false = refl

      unlike-true : (b : Bool) → unlike b true ≡ not b
      unlike-true true = refl
      unlike-true false = refl

      by_sign : (b : Bool) → leb (2 ^ 31) y ≡ b → numerator_of Divide x y ≡ signed_size (unlike s (leb (2 ^ 31) y)) (units_of x)
      by_sign true e =
          rw e
          (rw (le-ltb y (2 ^ 31) (leb-true (2 ^ 31) y e))
          (ap neg_ℤ (signed-value x (units_of x)) ∙ opposite s (units_of x) ∙ ap (λ (b : Bool). signed_size b (units_of x)) (sym (unlike-true s))))
      by_sign false e =
          rw e
          (rw (lt-ltb y (2 ^ 31) (leb-false (2 ^ 31) y e))
          (signed-value x (units_of x) ∙ ap (λ (b : Bool). signed_size b (units_of x)) (sym (unlike-false s))))

  -- every operation but a division by zero
  pub operation-rounds : (op : Operation) → 0 < denominator_of op x y → Rounds (computed_of op (float_of x) (float_of y))
      (numerator_of op x y) (denominator_of op x y) (zero_sign_of op x y)
  operation-rounds Add h = add_rounds
  operation-rounds Subtract h = subtract-rounds
  operation-rounds Multiply h = multiply-rounds
  operation-rounds Divide h = divide-rounds h
