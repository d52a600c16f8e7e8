-- "the list of kinds replaced, in order" (paper 02, W13): the list rises from 1 to 6. Which kinds stand in it is
-- saved_salvage's KeptExactlyAll. The statement; its proof is `replaced-rising`.
use Rattle.std.specs.Prelude.{ℕ, suc, ◌≤◌, List, [], ◌∷◌}
use Rattle.saved_salvage.specs.Listed.{replaced_of}
use Rattle.saved_salvage.specs.declared.Kept.{Kept}

-- each number is above the one before it, the first is at least `low`, and none is above `high`
abbrev pub Rising : ℕ → ℕ → List ℕ → Type 0
Rising low high [] = Unit {0}
Rising low high (n ∷ ns) = (low ≤ n) × ((n ≤ high) × Rising (suc n) high ns)

abbrev pub ReplacedRising : Type 0
ReplacedRising = (k : Kept) → Rising 1 6 (replaced_of k)
