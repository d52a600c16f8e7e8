-- A list made from another, each entry by its number, counted from n: so the entry at a number. Assumes nothing.
use Prim.Native.Nat.{ℕ, zero, suc, ◌+◌, ◌<◌}
use mathlib.Core.List.{List, [], ◌∷◌}
use mathlib.Core.Path.{◌≡◌, ap}
use native.Mathlib.Omega.{arith}
use lib.ListN.{get_or, length}

abbrev pub numbered : {A B : Type 0} → (ℕ → A → B) → ℕ → List A → List B
numbered g n [] = []
numbered g n (x ∷ xs) = g n x ∷ numbered g (suc n) xs

pub numbered-at : {A B : Type 0} (g : ℕ → A → B) (n : ℕ) (xs : List A) (k : ℕ) (d : A) (e : B) → k < length xs → (m : ℕ) → m ≡ n + k →
    get_or (numbered g n xs) k e ≡ g m (get_or xs k d)
numbered-at g n [] k d e h m q = absurd (omega arith)
numbered-at g n (x ∷ xs) zero d e h m q =
    let same : n ≡ m = omega arith in
    ap (λ (j : ℕ). g j x) same
numbered-at g n (x ∷ xs) (suc k) d e h m q = numbered-at g (suc n) xs k d e (omega arith) m (omega arith)
