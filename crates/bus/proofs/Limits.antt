-- The table of the code's limits: what no value of a drawing register's width reaches. Assumes nothing.
use Prim.Native.Nat.{ℕ, ◌<◌, ◌^◌}
use mathlib.Core.List.{List, [], ◌∷◌}
use mathlib.Core.Path.{◌≡◌}
use borrow.Author.Tests.{eqb-true}
use lib.Dec.{eqb}
use lib.ListN.{get_or}
use Rattle.word.proofs.Listed.{below-test}
use Rattle.bus.specs.Registers.{width_of}

abbrev pub limits : List ℕ
limits = 1024 ∷ 1024 ∷ 1024 ∷ 1024 ∷ 256 ∷ 256 ∷ 256 ∷ 256 ∷ 256 ∷ 256 ∷ 256 ∷ 256 ∷ 4 ∷ []

pub limit : (k : ℕ) → k < 13 → get_or limits k 0 ≡ 2 ^ width_of k
limit k h = eqb-true _ _ (below-test (λ q. eqb (get_or limits q 0) (2 ^ width_of q)) 13 k tt h)
