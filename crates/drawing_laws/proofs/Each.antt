-- What holds of each number of a list: of two lists joined, and of a part.
-- Assumes nothing.
use Prim.Native.Nat.{ℕ}
use mathlib.Core.List.{List, [], ◌∷◌, ◌++◌}
use Rattle.drawing_laws.specs.Demand3.{Each}

module _ (P : ℕ → Type 0) where
  pub each_left : (xs ys : List ℕ) → Each P (xs ++ ys) → Each P xs
  each_left [] ys h = tt
  each_left (x ∷ xs) ys h = (h.0, each_left xs ys h.1)

  pub each_right : (xs ys : List ℕ) → Each P (xs ++ ys) → Each P ys
  each_right [] ys h = h
  each_right (x ∷ xs) ys h = each_right xs ys h.1

  pub each-join : (xs ys : List ℕ) → Each P xs → Each P ys → Each P (xs ++ ys)
  each-join [] ys h k = k
  each-join (x ∷ xs) ys h k = (h.0, each-join xs ys h.1 k)

  pub each_map : (Q : ℕ → Type 0) (xs : List ℕ) → ((a : ℕ) → P a → Q a) → Each P xs → Each Q xs
  each_map Q [] h k = tt
  each_map Q (x ∷ xs) h k = (h x k.0, each_map Q xs h k.1)
