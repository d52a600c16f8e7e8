-- The tests that decide whether a cell column and row lie in a background, and the cell that is used then. Assumes nothing.
use Rattle.std.proofs.Common.{◌≡◌, ℕ, ◌+◌, ◌*◌, ◌/◌, ◌%◌, ◌^◌, ◌<◌, ◌≤◌, Bool, true, false, not, ◌&&◌, ltb, List, get_or, le-ltb, lt-ltb, le-leb}
use mathlib.Core.Bool.{and-false}
use borrow.Author.Tests.{lt-leb}
use Rattle.drawing_pixel.specs.World.{scx_of, scy_of, over_of}
use Rattle.drawing_pixel.specs.inner.BiasedCell.{inside_biased, cell_address_biased, map_cell_address_biased}
use Rattle.drawing_pixel.specs.Background.{map_number_of, maps_across_of}
use Rattle.drawing_background.specs.inner.Row.{MapsOf}

pub outside-left : (w : List ℕ) (u v : ℕ) → u < 1048576 → false ≡ inside_biased w u v
unfolding inside_biased
outside-left w u v h = simp (lt-leb _ _ h)

pub outside-right : (w : List ℕ) (u v a : ℕ) → a ≡ 2 ^ (6 + scx_of w) → 1048576 + a ≤ u → false ≡ inside_biased w u v
unfolding inside_biased
outside-right w u v a e h = rw (← e) (simp (le-ltb _ _ h, and-false))

pub outside_above : (w : List ℕ) (u v : ℕ) → v < 1048576 → false ≡ inside_biased w u v
unfolding inside_biased
outside_above w u v h = simp (lt-leb _ _ h, and-false)

pub inside-down : (w : List ℕ) (u v a d : ℕ) → a ≡ 2 ^ (6 + scx_of w) → d ≡ 2 ^ (6 + scy_of w)
    → 1048576 ≤ u → u < 1048576 + a → 1048576 ≤ v → ltb v (1048576 + d) ≡ inside_biased w u v
unfolding inside_biased
inside-down w u v a d e f l h m = rw (← e, ← f) (simp (le-leb _ _ l, lt-ltb _ _ h, le-leb _ _ m))

-- the overplane's cell where it is used ..
pub cell-overplane : (w : List ℕ) (u v : ℕ) → (over_of w && not (inside_biased w u v)) ≡ true → 131072 + 2 * get_or w 10 0 ≡ cell_address_biased w u v
unfolding cell_address_biased
cell-overplane w u v e = rw e

-- .. else that of a map, by what the maps of a world are
pub cell-arranged : (w : List ℕ) (u v : ℕ) {over : Bool} {first beside across down : ℕ} → MapsOf w over first beside across down
    → (over_of w && not (inside_biased w u v)) ≡ false
    → 131072 + 8192 * ((first + (v % 2 ^ down / 64 * 2 ^ beside + u % 2 ^ across / 64 % 2 ^ beside)) % 16) + 2 * (64 * (v % 64) + u % 64)
    ≡ cell_address_biased w u v
unfolding cell_address_biased map_cell_address_biased map_number_of maps_across_of
cell-arranged w u v m e = rw (e, m.first, m.repeats, m.width, m.height)
