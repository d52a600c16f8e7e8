-- Numbers below a bound of which a test holds: some of them, the list of them, and lists that are joined over it.
-- Assumes nothing.
use Prim.Native.Nat.{ℕ, zero, suc, ◌+◌, ◌*◌, ◌<◌, ◌≤◌}
use mathlib.Core.Bool.{Bool, true, false, ◌||◌, false≢true}
use mathlib.Core.List.{List, [], ◌∷◌, ◌++◌, flat_map, foldr}
use mathlib.Core.Path.{◌≡◌, refl, ◌∙◌}
use lib.Dec.{eqb}
use lib.ListN.{length, length-append}
use native.Mathlib.Omega.{arith}
use borrow.Author.Tests.{eqb-true, eqb-false}
use Rattle.word.specs.Choose.{pick}
use Rattle.word.proofs.Choices.{or_left, or_right, or_cases}
use Rattle.drawing_laws.specs.Covers.{some_below, which_below}
use Rattle.drawing_laws.specs.Demand3.{Each}
use Rattle.drawing_laws.proofs.Each.{each-join}

module _ (test : ℕ → Bool) where
  -- a test that holds of some number below n
  pub some_at : (n : ℕ) (A : Type 0) → some_below n test ≡ true → ((m : ℕ) → m < n → test m ≡ true → A) → A
  unfolding some_below
  some_at zero A e h = absurd (false≢true e)
  some_at (suc n) A e h =
      or_cases (test n) _ e (h n (omega arith)) (λ g. some_at n A g (λ m l. h m (omega arith)))

  pub some-there : (n m : ℕ) → m < n → test m ≡ true → some_below n test ≡ true
  unfolding some_below
  some-there zero m l e = absurd (omega arith)
  some-there (suc n) m l e = go (eqb m n) refl (some-there n m)
    where
      go : (b : Bool) → eqb m n ≡ b → (m < n → test m ≡ true → some_below n test ≡ true) → (test n || some_below n test) ≡ true
      go true q later = or_left (test n) _ (rw (eqb-true m n q) at e)
      go false q later =
          let other : m ≡ n → ⊥ = eqb-false m n q in
          or_right (test n) _ (later (omega arith) e)

  pub which-none : (n : ℕ) → ((m : ℕ) → m < n → test m ≡ true → ⊥) → which_below n test ≡ []
  unfolding which_below
  which-none zero h = refl
  which-none (suc n) h = go (test n) refl (which-none n (λ m l. h m (omega arith)))
    where
      go : (b : Bool) → test n ≡ b → which_below n test ≡ [] → pick b (n ∷ which_below n test) (which_below n test) ≡ []
      go true e rest = absurd (h n (omega arith) e)
      go false e rest = rest

  -- what holds of the part of every number that the test holds of
  pub each-which : (P : ℕ → Type 0) (f : ℕ → List ℕ) (n : ℕ) → ((m : ℕ) → m < n → test m ≡ true → Each P (f m))
      → Each P (flat_map f (which_below n test))
  unfolding which_below flat_map
  each-which P f zero h = tt
  each-which P f (suc n) h = go (test n) refl (each-which P f n (λ m l. h m (omega arith)))
    where
      go : (b : Bool) → test n ≡ b → Each P (flat_map f (which_below n test))
          → Each P (flat_map f (pick b (n ∷ which_below n test) (which_below n test)))
      go true e rest = each-join P (f n) _ (h n (omega arith) e) rest
      go false e rest = rest

-- one number more
pub flat-more : (f : ℕ → List ℕ) (b : Bool) (n : ℕ) (rest : List ℕ)
    → flat_map f (pick b (n ∷ rest) rest) ≡ pick b (f n) [] ++ flat_map f rest
unfolding flat_map
flat-more f true n rest = refl
flat-more f false n rest = refl

-- the length of a list whose parts are no longer than m, and of one whose parts' lengths are known
pub flat-few : (f : ℕ → List ℕ) (m : ℕ) → ((n : ℕ) → length (f n) ≤ m) → (xs : List ℕ) → length (flat_map f xs) ≤ m * length xs
unfolding flat_map
flat-few f m h [] = omega arith
flat-few f m h (x ∷ xs) =
    let this : length (f x) ≤ m = h x in
    let rest : length (flat_map f xs) ≤ m * length xs = flat-few f m h xs in
    rw (length-append (f x) (flat_map f xs)) (omega arith)

pub flat-length : (f : ℕ → List ℕ) (count : ℕ → ℕ) → ((n : ℕ) → length (f n) ≡ count n) → (xs : List ℕ)
    → length (flat_map f xs) ≡ foldr (λ n sum. count n + sum) 0 xs
unfolding flat_map
flat-length f count h [] = refl
flat-length f count h (x ∷ xs) = length-append (f x) (flat_map f xs) ∙ rw (h x, flat-length f count h xs)

pub flat-all : (f : ℕ → List ℕ) (m : ℕ) → ((n : ℕ) → length (f n) ≡ m) → (xs : List ℕ) → length (flat_map f xs) ≡ m * length xs
unfolding flat_map
flat-all f m h [] = omega arith
flat-all f m h (x ∷ xs) =
    let this : length (f x) ≡ m = h x in
    let rest : length (flat_map f xs) ≡ m * length xs = flat-all f m h xs in
    length-append (f x) (flat_map f xs) ∙ omega arith
