-- Integers as differences of natural numbers, so that a statement over ℤ comes down to one over ℕ: `Is z a b` says that
-- z is a - b, and the laws below give sums, differences, products and the tests of order by a and b. Assumes nothing.
use Prim.Native.Nat.{ℕ, zero, suc, ◌+◌, ◌-◌, ◌*◌, ◌<◌, ◌≤◌}
use native.Mathlib.Nat as NatL
use native.Mathlib.Omega.{arith}
use mathlib.Core.Path.{◌≡◌, refl, sym, ap, subst}
use mathlib.Core.Bool.{not}
use lib.Dec.{T, ltb, leb, leb→le, ltb→lt, nltb→le, le→leb, lt→ltb}
use borrow.Author.Tests.{lt-ltb, le-ltb, lt-leb, le-leb}
use lib.IntN.{ℤ, pos, negsuc, neg_ℤ, sub_ℕ, ◌+ℤ◌, ◌-ℤ◌, ◌*ℤ◌, *ℤ_comm}
use lib.Signed.{le_z, lt_z, ◌≤ℤ◌, ◌<ℤ◌}
use Rattle.word.specs.Integers.{above_zero}
use Rattle.word.proofs.Choices.{cond-case, bool_same, not-less}

-- a is z + b, with no subtraction
abbrev Gap : ℤ → ℕ → ℕ → Type 0
Gap (pos n) a b = a ≡ n + b
Gap (negsuc n) a b = a + suc n ≡ b

-- z is a - b
pub record Is (z : ℤ) (a b : ℕ) : Type 0 where
  pub gap : Gap z a b

sub_is : (m n : ℕ) → Gap (sub_ℕ m n) m n
sub_is m n =
    cond-case (λ z. Gap z m n) (ltb m n) (negsuc (n - suc m)) (pos (m - n))
    (λ t. let h = ltb→lt m n t in omega arith)
    (λ t. let h = nltb→le m n t in omega arith)

moved : (z : ℤ) (a b c d : ℕ) → a + d ≡ c + b → Gap z a b → Gap z c d
moved (pos n) a b c d e g = omega arith
moved (negsuc n) a b c d e g = omega arith

-- the same difference of other numbers
pub is-moved : {z : ℤ} {a b c d : ℕ} → Is z a b → a + d ≡ c + b → Is z c d
is-moved {z} {a} {b} {c} {d} h e = record { gap = moved z a b c d e h.gap }

pub is_pos : (n : ℕ) → Is (pos n) n 0
is_pos n = record { gap = omega arith }

pub is-negsuc : (n : ℕ) → Is (negsuc n) 0 (suc n)
is-negsuc n = record { gap = omega arith }

equal : (y z : ℤ) (a b c d : ℕ) → a + d ≡ c + b → Gap y a b → Gap z c d → y ≡ z
equal (pos m) (pos n) a b c d e g h = let s : m ≡ n = omega arith in ap pos s
equal (pos m) (negsuc n) a b c d e g h = let s : ⊥ = omega arith in absurd s
equal (negsuc m) (pos n) a b c d e g h = let s : ⊥ = omega arith in absurd s
equal (negsuc m) (negsuc n) a b c d e g h = let s : m ≡ n = omega arith in ap negsuc s

-- differences are equal where their sums crosswise are
pub is-equal : {y z : ℤ} {a b c d : ℕ} → Is y a b → Is z c d → a + d ≡ c + b → y ≡ z
is-equal {y} {z} {a} {b} {c} {d} g h e = equal y z a b c d e g.gap h.gap

sum : (y z : ℤ) (a b c d : ℕ) → Gap y a b → Gap z c d → Gap (y +ℤ z) (a + c) (b + d)
sum (pos m) (pos n) a b c d g h = omega arith
sum (pos m) (negsuc n) a b c d g h = moved (sub_ℕ m (suc n)) m (suc n) (a + c) (b + d) (omega arith) (sub_is m (suc n))
sum (negsuc m) (pos n) a b c d g h = moved (sub_ℕ n (suc m)) n (suc m) (a + c) (b + d) (omega arith) (sub_is n (suc m))
sum (negsuc m) (negsuc n) a b c d g h = omega arith

pub is_sum : {y z : ℤ} {a b c d : ℕ} → Is y a b → Is z c d → Is (y +ℤ z) (a + c) (b + d)
is_sum {y} {z} {a} {b} {c} {d} g h = record { gap = sum y z a b c d g.gap h.gap }

minus : (z : ℤ) (a b : ℕ) → Gap z a b → Gap (neg_ℤ z) b a
minus (pos zero) a b g = omega arith
minus (pos (suc n)) a b g = omega arith
minus (negsuc n) a b g = omega arith

pub is-minus : {z : ℤ} {a b : ℕ} → Is z a b → Is (neg_ℤ z) b a
is-minus {z} {a} {b} h = record { gap = minus z a b h.gap }

pub is-difference : {y z : ℤ} {a b c d : ℕ} → Is y a b → Is z c d → Is (y -ℤ z) (a + d) (b + c)
is-difference g h = is_sum g (is-minus h)

tied : (z : ℤ) (a b : ℕ) → Gap z a b → pos a ≡ z +ℤ pos b
tied (pos n) a b g = ap pos g
tied (negsuc n) a b g =
    cond-case (λ z. pos a ≡ z) (ltb b (suc n)) (negsuc (suc n - suc b)) (pos (b - suc n))
    (λ t. let h = ltb→lt b (suc n) t in let z : ⊥ = omega arith in absurd z)
    (λ t. let e : a ≡ b - suc n = omega arith in ap pos e)

-- a difference with a known bias
pub is_tied : {z : ℤ} {a b : ℕ} → Is z a b → pos a ≡ z +ℤ pos b
is_tied {z} {a} {b} h = tied z a b h.gap

-- a difference that is a natural number
pub is-natural : {z : ℤ} {a b : ℕ} (c : ℕ) → Is z a b → a ≡ c + b → pos c ≡ z
is-natural {z} {a} {b} c h e = is-equal (is_pos c) h (omega arith)

untied : (z : ℤ) (a b : ℕ) → pos a ≡ z +ℤ pos b → Gap z a b
untied (pos n) a b e = cc
untied (negsuc n) a b e = moved_on (sub_ℕ b (suc n)) e (sub_is b (suc n))
  where
    moved_on : (z : ℤ) → pos a ≡ z → Gap z b (suc n) → a + suc n ≡ b
    moved_on (pos k) e g = let d : a ≡ k = cc in omega arith
    moved_on (negsuc k) e g = let d : ◌≡◌ {A = ℕ} 0 1 = cc in omega arith

pub is-of : {z : ℤ} {a b : ℕ} → pos a ≡ z +ℤ pos b → Is z a b
is-of {z} {a} {b} e = record { gap = untied z a b e }

-- the tests of order, and the order itself
le_test : (y z : ℤ) (a b c d : ℕ) → Gap y a b → Gap z c d → le_z y z ≡ leb (a + d) (c + b)
le_test (pos m) (pos n) a b c d g h =
    bool_same (leb m n) (leb (a + d) (c + b))
    (λ t. let l = leb→le m n t in le→leb (a + d) (c + b) (omega arith))
    (λ t. let l = leb→le (a + d) (c + b) t in le→leb m n (omega arith))
le_test (pos m) (negsuc n) a b c d g h = sym (lt-leb (a + d) (c + b) (omega arith))
le_test (negsuc m) (pos n) a b c d g h = sym (le-leb (a + d) (c + b) (omega arith))
le_test (negsuc m) (negsuc n) a b c d g h =
    bool_same (leb n m) (leb (a + d) (c + b))
    (λ t. let l = leb→le n m t in le→leb (a + d) (c + b) (omega arith))
    (λ t. let l = leb→le (a + d) (c + b) t in le→leb n m (omega arith))

lt_test : (y z : ℤ) (a b c d : ℕ) → Gap y a b → Gap z c d → lt_z y z ≡ ltb (a + d) (c + b)
lt_test (pos m) (pos n) a b c d g h =
    bool_same (ltb m n) (ltb (a + d) (c + b))
    (λ t. let l = ltb→lt m n t in lt→ltb (a + d) (c + b) (omega arith))
    (λ t. let l = ltb→lt (a + d) (c + b) t in lt→ltb m n (omega arith))
lt_test (pos m) (negsuc n) a b c d g h = sym (le-ltb (a + d) (c + b) (omega arith))
lt_test (negsuc m) (pos n) a b c d g h = sym (lt-ltb (a + d) (c + b) (omega arith))
lt_test (negsuc m) (negsuc n) a b c d g h =
    bool_same (ltb n m) (ltb (a + d) (c + b))
    (λ t. let l = ltb→lt n m t in lt→ltb (a + d) (c + b) (omega arith))
    (λ t. let l = ltb→lt (a + d) (c + b) t in lt→ltb n m (omega arith))

pub is-le-test : {y z : ℤ} {a b c d : ℕ} → Is y a b → Is z c d → le_z y z ≡ leb (a + d) (c + b)
is-le-test {y} {z} {a} {b} {c} {d} g h = le_test y z a b c d g.gap h.gap

pub is-lt-test : {y z : ℤ} {a b c d : ℕ} → Is y a b → Is z c d → lt_z y z ≡ ltb (a + d) (c + b)
is-lt-test {y} {z} {a} {b} {c} {d} g h = lt_test y z a b c d g.gap h.gap

pub le_is : {y z : ℤ} {a b c d : ℕ} → Is y a b → Is z c d → y ≤ℤ z → a + d ≤ c + b
le_is {y} {z} {a} {b} {c} {d} g h l = leb→le (a + d) (c + b) (subst T (is-le-test g h) l.le)

pub is_le : {y z : ℤ} {a b c d : ℕ} → Is y a b → Is z c d → a + d ≤ c + b → y ≤ℤ z
is_le {y} {z} {a} {b} {c} {d} g h l = record { le = subst T (sym (is-le-test g h)) (le→leb (a + d) (c + b) l) }

pub is_lt : {y z : ℤ} {a b c d : ℕ} → Is y a b → Is z c d → a + d < c + b → y <ℤ z
is_lt {y} {z} {a} {b} {c} {d} g h l = record { lt = subst T (sym (is-lt-test g h)) (lt→ltb (a + d) (c + b) l) }

-- products with a factor that is not negative
times : (y z : ℤ) (a b n : ℕ) → Gap y a b → Gap z n 0 → Gap (y *ℤ z) (a * n) (b * n)
times (pos m) (pos k) a b n g h =
    let e : n ≡ k = omega arith in
    rw e (rw g (NatL.add-mul m b k))
times (negsuc m) (pos k) a b n g h =
    let e : n ≡ k = omega arith in
    let f : b ≡ suc m + a = omega arith in
    rw e (rw f (minus (pos (suc m * k)) ((suc m + a) * k) (a * k) (NatL.add-mul (suc m) a k)))
times (pos m) (negsuc k) a b n g h = let z : ⊥ = omega arith in absurd z
times (negsuc m) (negsuc k) a b n g h = let z : ⊥ = omega arith in absurd z

pub is-times : {y z : ℤ} {a b n : ℕ} → Is y a b → Is z n 0 → Is (y *ℤ z) (a * n) (b * n)
is-times {y} {z} {a} {b} {n} g h = record { gap = times y z a b n g.gap h.gap }

pub is-scaled : {z : ℤ} {a b : ℕ} (n : ℕ) → Is z a b → Is (pos n *ℤ z) (n * a) (n * b)
is-scaled {z} {a} {b} n h =
    rw (*ℤ_comm (pos n) z, NatL.mul_comm n a, NatL.mul_comm n b) (is-times h (is_pos n))

above : (z : ℤ) (a b : ℕ) → Gap z a b → above_zero z ≡ a - b
above (pos n) a b g = omega arith
above (negsuc n) a b g = omega arith

pub is-above : {z : ℤ} {a b : ℕ} → Is z a b → above_zero z ≡ a - b
is-above {z} {a} {b} i = above z a b i.gap

pub above-natural : {z : ℤ} {n : ℕ} → pos n ≡ z → pos (above_zero z) ≡ z
above-natural {z} {n} e = subst (λ v. pos (above_zero v) ≡ v) e refl

-- the two tests of order are each other's opposites
pub not-lessℤ : (u v : ℤ) → not (lt_z u v) ≡ le_z v u
not-lessℤ (pos a) (pos b) = not-less a b
not-lessℤ (pos a) (negsuc b) = refl
not-lessℤ (negsuc a) (pos b) = refl
not-lessℤ (negsuc a) (negsuc b) = not-less b a
