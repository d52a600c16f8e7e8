-- Numbers that are listed: tests that hold of every number of a list or below a bound, `member` and `index_of` of
-- `Choose`, and `OneOf n xs`, which an arm `a | b | .. =>` of a match hands over. Assumes nothing.
use Prim.Native.Nat.{ℕ, zero, suc, ◌<◌}
use mathlib.Core.Bool.{Bool, true, false, true≢false}
use mathlib.Core.List.{List, [], ◌∷◌, ◌++◌}
use mathlib.Core.Logic.{◌⊎◌, inl, inr}
use mathlib.Core.Path.{◌≡◌, refl, sym, ap, ◌∙◌}
use native.Mathlib.Decide.{ℕ_discrete}
use native.Mathlib.Omega.{arith}
use borrow.Author.Tests.{eq-eqb, ne_eqb, lt-ltb}
use lib.Dec.{T, ltb, eqb}
use lib.ListN.{length}
use Rattle.word.specs.Choose.{pick, member, index_of}
use Rattle.word.proofs.Choices.{bool-refuted, test-same, less-same, pick-either, pick-head, pick-tail}

-- whether a test holds of every number listed
abbrev pub every : (ℕ → Bool) → List ℕ → Bool
every f [] = true
every f (x ∷ xs) = pick (f x) (every f xs) false

-- whether a test holds of every number below n
abbrev pub every_below : (ℕ → Bool) → ℕ → Bool
every_below f zero = true
every_below f (suc n) = pick (f n) (every_below f n) false

pub below-test : (f : ℕ → Bool) (n q : ℕ) → T (every_below f n) → q < n → f q ≡ true
below-test f zero q all h = absurd (omega arith)
below-test f (suc n) q all h =
    elim (ℕ_discrete q n) [
      | yes e ↦ ap f e ∙ pick-head (f n) (every_below f n) all
      | no ne ↦ below-test f n q (pick-tail (f n) (every_below f n) all) (omega arith)
    ]

-- a number listed passes a test that every number listed passes
pub member-every : (f : ℕ → Bool) (n : ℕ) (xs : List ℕ) → T (every f xs) → member n xs ≡ true → f n ≡ true
member-every f n [] all h = absurd (true≢false (sym h))
member-every f n (x ∷ xs) all h =
    elim (ℕ_discrete n x) [
      | yes e ↦ ap f e ∙ pick-head (f x) (every f xs) all
      | no ne ↦ member-every f n xs (pick-tail (f x) (every f xs) all) (simp (ne_eqb n x ne) at h)
    ]

-- a number that fails it is not listed, and has no index
pub member_apart : (f : ℕ → Bool) (n : ℕ) (xs : List ℕ) → T (every f xs) → f n ≡ false → member n xs ≡ false
member_apart f n xs all out =
    bool-refuted (member n xs) (λ h. true≢false (sym (member-every f n xs all h) ∙ out))

pub index-apart : (f : ℕ → Bool) (n : ℕ) (xs : List ℕ) → T (every f xs) → f n ≡ false → index_of n xs ≡ length xs
index-apart f n [] all out = refl
index-apart f n (x ∷ xs) all out =
    simp (ne_eqb n x (λ e. true≢false (sym (pick-head (f x) (every f xs) all) ∙ ap f (sym e) ∙ out)))
    (ap suc (index-apart f n xs (pick-tail (f x) (every f xs) all) out))

-- lists with the same numbers, in any order
pub member-same : (n : ℕ) (xs ys : List ℕ) → T (every (λ (x : ℕ). member x ys) xs) → T (every (λ (x : ℕ). member x xs) ys)
    → member n xs ≡ member n ys
member-same n xs ys p q =
    test-same (member n xs) (member n ys) (member-every (λ (x : ℕ). member x ys) n xs p) (member-every (λ (x : ℕ). member x xs) n ys q)

pub member-append : (n : ℕ) (xs ys : List ℕ) → member n (xs ++ ys) ≡ pick (member n xs) true (member n ys)
member-append n [] ys = refl
member-append n (x ∷ xs) ys =
    elim (ℕ_discrete n x) [
      | yes e ↦ simp (eq-eqb n x e)
      | no ne ↦ simp (ne_eqb n x ne) (member-append n xs ys)
    ]

ltb-suc : (i n : ℕ) → ltb (suc i) (suc n) ≡ ltb i n
ltb-suc i n = less-same (suc i) (suc n) i n (λ h. omega arith) (λ h. omega arith)

-- a number listed has an index
pub index-member : (n : ℕ) (xs : List ℕ) → ltb (index_of n xs) (length xs) ≡ member n xs
index-member n [] = refl
index-member n (x ∷ xs) =
    elim (ℕ_discrete n x) [
      | yes e ↦ simp (eq-eqb n x e) (lt-ltb 0 (suc (length xs)) (omega arith))
      | no ne ↦ simp (ne_eqb n x ne) (ltb-suc (index_of n xs) (length xs) ∙ index-member n xs)
    ]

-- n is one of the numbers of an arm
abbrev pub OneOf : ℕ → List ℕ → Type 0
OneOf n [] = ⊥
OneOf n (x ∷ []) = n ≡ x
OneOf n (x ∷ y ∷ ys) = (n ≡ x) ⊎ OneOf n (y ∷ ys)

pub arm-member : (n : ℕ) (xs : List ℕ) → OneOf n xs → member n xs ≡ true
arm-member n [] o = absurd o
arm-member n (x ∷ []) o = simp (eq-eqb n x o)
arm-member n (x ∷ y ∷ ys) (inl e) = simp (eq-eqb n x e)
arm-member n (x ∷ y ∷ ys) (inr o) = rw (arm-member n (y ∷ ys) o) (pick-either (eqb n x) true)

-- what holds of every number of the arm holds of n
pub arm-test : (f : ℕ → Bool) (n : ℕ) (xs : List ℕ) → T (every f xs) → OneOf n xs → f n ≡ true
arm-test f n xs all o = member-every f n xs all (arm-member n xs o)

-- a number that no arm names is not in their list
pub rest-member : (n : ℕ) (xs : List ℕ) → (OneOf n xs → ⊥) → member n xs ≡ false
rest-member n [] h = refl
rest-member n (x ∷ []) h = simp (ne_eqb n x h)
rest-member n (x ∷ y ∷ ys) h = simp (ne_eqb n x (λ e. h (inl e))) (rest-member n (y ∷ ys) (λ o. h (inr o)))
