-- Which worlds the loop reaches and which group it has reached, counted from world n upwards as the loop goes down:
-- `reached`, `end-stops` and `group-is` tie both to specs/Covers. Assumes nothing.
use Prim.Native.Nat.{ℕ, zero, suc, ◌+◌, ◌-◌, ◌%◌, ◌<◌, ◌≤◌}
use mathlib.Core.Bool.{Bool, true, false, ◌&&◌, not, false≢true}
use mathlib.Core.List.{List, ◌∷◌}
use mathlib.Core.Path.{◌≡◌, sym, ap, ◌∙◌}
use lib.Dec.{leb}
use lib.ListN.{length}
use native.Mathlib.Nat.{add-zero}
use native.Mathlib.Omega.{arith}
use borrow.Author.Tests.{not-true, le-leb, leb-true}
use Rattle.word.specs.Choose.{pick}
use Rattle.word.proofs.Choices.{and_left, and_right, and_both, not_of_false, bool-refuted}
use Rattle.drawing_pixel.specs.World.{world_of, end_of}
use Rattle.drawing_pixel.specs.Pixel.{draws_objects_of}
use Rattle.drawing_laws.specs.Covers.{some_below, which_below, reached_of, group_of}
use Rattle.drawing_laws.proofs.Below.{some_at, some-there, which-none}

-- whether none of the k worlds from world n on has END
unfoldable pub no_end_of : List ℕ → ℕ → ℕ → Bool
no_end_of vram n zero = true
no_end_of vram n (suc k) = not (end_of (world_of vram n)) && no_end_of vram (suc n) k

-- how many of the k worlds from world n on draw objects
unfoldable pub object_worlds_of : List ℕ → ℕ → ℕ → ℕ
object_worlds_of vram n zero = 0
object_worlds_of vram n (suc k) = pick (draws_objects_of (world_of vram n)) 1 0 + object_worlds_of vram (suc n) k

-- one world more without END
pub no-end-more : (vram : List ℕ) (n k : ℕ) → end_of (world_of vram n) ≡ false → no_end_of vram (suc n) k ≡ true → no_end_of vram n (suc k) ≡ true
unfolding no_end_of
no-end-more vram n k e h = and_both _ _ (not_of_false (end_of (world_of vram n)) e) h

-- none of the k worlds from world m on has END
no-end-at : (vram : List ℕ) (m k i : ℕ) → no_end_of vram m k ≡ true → i < k → end_of (world_of vram (m + i)) ≡ false
unfolding no_end_of
no-end-at vram m zero i h l = absurd (omega arith)
no-end-at vram m (suc k) zero h l =
    rw add-zero (not-true (end_of (world_of vram m)) (and_left (not (end_of (world_of vram m))) _ h))
no-end-at vram m (suc k) (suc i) h l =
    let later : suc m + i ≡ m + suc i = omega arith in
    rw later at (no-end-at vram (suc m) k i (and_right (not (end_of (world_of vram m))) _ h) (omega arith))

-- a world above which, and in which, there is no END is reached
pub reached : (vram : List ℕ) (n k : ℕ) → suc n + k ≡ 32 → no_end_of vram n (suc k) ≡ true → reached_of vram n ≡ true
unfolding reached_of
reached vram n k q h =
    not_of_false (some_below 32 (λ m. leb n m && end_of (world_of vram m)))
    (bool-refuted _ (λ e.
    some_at (λ m. leb n m && end_of (world_of vram m)) 32 ⊥ e
    (λ m l f.
    let above : n ≤ m = leb-true n m (and_left (leb n m) _ f) in
    let here : n + (m - n) ≡ m = omega arith in
    false≢true (sym (rw here at (no-end-at vram n (suc k) (m - n) h (omega arith))) ∙ and_right (leb n m) _ f))))

-- no world from END downwards is reached
pub end-stops : (vram : List ℕ) (n m : ℕ) → n < 32 → m ≤ n → end_of (world_of vram n) ≡ true → reached_of vram m ≡ true → ⊥
unfolding reached_of
end-stops vram n m b l e r =
    let found = some-there (λ j. leb m j && end_of (world_of vram j)) 32 n b (and_both (leb m n) _ (le-leb m n l) e) in
    false≢true (sym (not-true (some_below 32 (λ j. leb m j && end_of (world_of vram j))) r) ∙ found)

pub object-worlds-below : (vram : List ℕ) (n k : ℕ) → object_worlds_of vram n k ≤ k
unfolding object_worlds_of
object-worlds-below vram n zero = omega arith
object-worlds-below vram n (suc k) = go (draws_objects_of (world_of vram n)) (object-worlds-below vram (suc n) k)
  where
    go : (b : Bool) → object_worlds_of vram (suc n) k ≤ k → pick b 1 0 + object_worlds_of vram (suc n) k ≤ suc k
    go true h = omega arith
    go false h = omega arith

-- the object worlds counted from the other end
object-worlds-last : (vram : List ℕ) (n k : ℕ)
    → object_worlds_of vram n (suc k) ≡ pick (draws_objects_of (world_of vram (n + k))) 1 0 + object_worlds_of vram n k
unfolding object_worlds_of
object-worlds-last vram n zero = let here : n + 0 ≡ n = omega arith in rw here
object-worlds-last vram n (suc k) =
    let later : suc n + k ≡ n + suc k = omega arith in
    let rest = rw later at (object-worlds-last vram (suc n) k) in
    ap (λ (m : ℕ). pick (draws_objects_of (world_of vram n)) 1 0 + m) rest ∙ omega arith

-- worlds from world n on that draw objects
which-from : (vram : List ℕ) (n k : ℕ)
    → length (which_below (n + k) (λ m. leb n m && draws_objects_of (world_of vram m))) ≡ object_worlds_of vram n k
unfolding which_below object_worlds_of
which-from vram n zero =
    ap length
    (which-none (λ m. leb n m && draws_objects_of (world_of vram m)) (n + zero)
    (λ m l e. let above : n ≤ m = leb-true n m (and_left (leb n m) _ e) in omega arith))
which-from vram n (suc k) =
    let last : n + suc k ≡ suc (n + k) = omega arith in
    let from : n ≤ n + k = omega arith in
    rw (last, object-worlds-last vram n k, le-leb n (n + k) from)
    (go (draws_objects_of (world_of vram (n + k))) (which-from vram n k))
  where
    go : (b : Bool)
        → length (which_below (n + k) (λ m. leb n m && draws_objects_of (world_of vram m))) ≡ object_worlds_of vram n k
        → length (pick b ((n + k) ∷ which_below (n + k) (λ m. leb n m && draws_objects_of (world_of vram m)))
        (which_below (n + k) (λ m. leb n m && draws_objects_of (world_of vram m))))
        ≡ pick b 1 0 + object_worlds_of vram n k
    go true rest = omega arith
    go false rest = omega arith

pub group-is : (vram : List ℕ) (n k : ℕ) → suc n + k ≡ 32 → group_of vram n ≡ (35 - object_worlds_of vram (suc n) k) % 4
unfolding group_of
group-is vram n k q = ap (λ (m : ℕ). (35 - m) % 4) (rw q at (which-from vram (suc n) k))
