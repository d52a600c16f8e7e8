-- What accepted drawing registers tell: a group starts at an object, and BKCOL has two bits. Assumes nothing.
use Prim.Native.Nat.{ℕ, zero, suc, ◌^◌, ◌<◌}
use mathlib.Core.Bool.{Bool, true, false}
use mathlib.Core.List.{List, [], ◌∷◌}
use mathlib.Core.Path.{◌≡◌}
use lib.ListN.{get_or}
use lib.Dec.{ltb}
use native.Mathlib.Omega.{arith}
use borrow.Author.Tests.{ltb-true}
use Rattle.word.specs.Choose.{pick}
use Rattle.word.proofs.Choices.{pick-both}
use Rattle.bus.specs.Registers.{spt_of, bkcol_of, width_of, drawing_ok}

-- whether each register named is within its width; of all thirteen, this is what `drawing_ok` computes to
abbrev within_each : List ℕ → List ℕ → Bool
within_each d [] = true
within_each d (k ∷ ks) = pick (ltb (get_or d k 0) (2 ^ width_of k)) (within_each d ks) false

-- the same as facts
abbrev Within : List ℕ → List ℕ → Type 0
Within d [] = Unit {0}
Within d (k ∷ ks) = (get_or d k 0 < 2 ^ width_of k) × Within d ks

within : (d ks : List ℕ) → within_each d ks ≡ true → Within d ks
within d [] e = tt
within d (k ∷ ks) e =
    let both = pick-both (ltb (get_or d k 0) (2 ^ width_of k)) (within_each d ks) e in
    (ltb-true (get_or d k 0) (2 ^ width_of k) both.0, within d ks both.1)

all : (d : List ℕ) → drawing_ok d ≡ true → Within d (0 ∷ 1 ∷ 2 ∷ 3 ∷ 4 ∷ 5 ∷ 6 ∷ 7 ∷ 8 ∷ 9 ∷ 10 ∷ 11 ∷ 12 ∷ [])
unfolding drawing_ok
all d e = within d (0 ∷ 1 ∷ 2 ∷ 3 ∷ 4 ∷ 5 ∷ 6 ∷ 7 ∷ 8 ∷ 9 ∷ 10 ∷ 11 ∷ 12 ∷ []) e

pub spt-below : (d : List ℕ) → drawing_ok d ≡ true → (n : ℕ) → n < 4 → spt_of d n < 1024
unfolding spt_of
spt-below d e zero h = (all d e).0
spt-below d e (suc zero) h = (all d e).1.0
spt-below d e (suc (suc zero)) h = (all d e).1.1.0
spt-below d e (suc (suc (suc zero))) h = (all d e).1.1.1.0
spt-below d e (suc (suc (suc (suc n)))) h = absurd (omega arith)

pub bkcol-below : (d : List ℕ) → drawing_ok d ≡ true → bkcol_of d < 4
unfolding bkcol_of
bkcol-below d e = (all d e).1.1.1.1.1.1.1.1.1.1.1.1.0
