-- What holds of each entry of a list. Assumes nothing.
use Prim.Native.Nat.{ℕ, zero, suc}
use mathlib.Core.List.{List, [], ◌∷◌, ◌++◌}
use lib.Dec.{eqb}
use lib.ListN.{get_or}
use Rattle.word.proofs.Choices.{pick-each}
use Rattle.processor_machine.specs.System.{row_of}

-- something holds of each entry of a list
abbrev pub Each : {A : Type 0} → (A → Type 0) → List A → Type 0
Each P [] = Unit {0}
Each P (a ∷ rest) = P a × Each P rest

pub each_append : {A : Type 0} (P : A → Type 0) (xs ys : List A) → Each P xs → Each P ys → Each P (xs ++ ys)
each_append P [] ys p q = q
each_append P (x ∷ xs) ys p q = (p.0, each_append P xs ys p.1 q)

pub each_at : {A : Type 0} (P : A → Type 0) (xs : List A) (n : ℕ) (other : A) → Each P xs → P other → P (get_or xs n other)
each_at P [] n other p q = q
each_at P (x ∷ xs) zero other p q = p.0
each_at P (x ∷ xs) (suc n) other p q = each_at P xs n other p.1 q

-- and of each row of a table
pub each_row : {A : Type 0} (P : A → Type 0) (n : ℕ) (rows : List (ℕ × A)) (other : A) → Each (λ (r : ℕ × A). P r.1) rows → P other → P (row_of n rows other)
each_row P n [] other p q = q
each_row P n (r ∷ rs) other p q = pick-each P (eqb n r.0) r.1 (row_of n rs other) p.0 (each_row P n rs other p.1 q)
