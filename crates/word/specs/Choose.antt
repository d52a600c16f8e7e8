-- The two choices that the definitions of every layer are made with: by a test, and by a list of numbers.
use Rattle.std.specs.Prelude.{ℕ, suc, Bool, true, false, List, [], ◌∷◌, eqb}

-- the first where the test holds, else the second
abbrev pub pick : {A : Type 0} → Bool → A → A → A
pick true a b = a
pick false a b = b

-- whether n stands in the list
abbrev pub member : ℕ → List ℕ → Bool
member n [] = false
member n (x ∷ xs) = pick (eqb n x) true (member n xs)

-- where n first stands in the list, counted from 0; the list's length where it does not
abbrev pub index_of : ℕ → List ℕ → ℕ
index_of n [] = 0
index_of n (x ∷ xs) = pick (eqb n x) 0 (suc (index_of n xs))
