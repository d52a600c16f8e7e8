-- Lists by what stands at each place.
use Rattle.std.specs.Prelude.{ℕ, zero, suc, List, [], ◌∷◌}

-- the numbers f a, f (a + 1), .., n of them
unfoldable pub list_of : ℕ → ℕ → (ℕ → ℕ) → List ℕ
list_of zero a f = []
list_of (suc n) a f = f a ∷ list_of n (suc a) f
