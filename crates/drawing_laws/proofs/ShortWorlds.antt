-- W3: the rows that a world covers. For GY from 0 to 223 a normal or H-bias world covers the rows of H + 1 and those to
-- the end of GY's strip, and no others; an affine world, and a world with any other GY, those of H + 1. Assumes nothing.
use Prim.Native.Nat.{ℕ, ◌+◌, ◌-◌, ◌%◌, ◌≤◌, ◌<◌, max}
use native.Mathlib.Omega.{arith}
use mathlib.Core.Bool.{Bool, true, false, ◌&&◌, not}
use mathlib.Core.List.{List}
use mathlib.Core.Path.{◌≡◌, refl, sym, ap, ◌∙◌}
use borrow.Author.Tests.{eq-eqb, ne_eqb, le-leb, lt-ltb, leb-true, ltb-true, ltb-false}
use lib.Dec.{eqb, leb}
use lib.IntN.{pos, ◌+ℤ◌}
use Rattle.word.specs.Choose.{pick}
use Rattle.drawing_pixel.specs.World.{world_of, bgm_of, world_shown_of}
use Rattle.drawing_pixel.specs.inner.BiasedFields.{gy_biased}
use Rattle.drawing_pixel.specs.inner.BiasedWindow.{height_biased, top_in_image_biased, rows_biased, row_covered_biased, world_covers_biased}
use Rattle.drawing_pixel.specs.Fields.{GY}
use Rattle.word.specs.Integers.{above_zero}
use Rattle.drawing_pixel.proofs.HeightFormulas.{world-height, top-in-image, world-rows}
use Rattle.drawing_pixel.specs.WindowFormulas.{plain_row}
use Rattle.drawing_pixel.proofs.WindowFormulas.{window-top, plain-row, column-covered}
use Rattle.drawing_pixel.proofs.Painting.{world-covers}
use Rattle.drawing_laws.specs.Covers.{reached_of, background_covers_of}
use Rattle.drawing_laws.specs.ShortWorlds.{Showing, StripCovered, AddedInStrip, PlainCovered, AffinePlain, OutsidePlain, FiveRows}
use Rattle.word.proofs.Choices.{and_left, and_right, and_both, not_of_false}

-- GY as it is kept
top-is : (w : List ℕ) (g : ℕ) → GY w ≡ pos g → gy_biased w ≡ g + 32768
top-is w g e = let f : pos (gy_biased w) ≡ pos (g + 32768) = window-top w ∙ ap (λ z. z +ℤ pos 32768) e in cc

-- the rows of a normal or H-bias world with GY in the image
rows-in-image : (w : List ℕ) (g : ℕ) → bgm_of w < 2 → gy_biased w ≡ g + 32768 → g ≤ 223
    → rows_biased w ≡ max (height_biased w) (8 - g % 8)
unfolding rows_biased
rows-in-image w g b e s =
    let n : bgm_of w ≡ 2 → ⊥ = λ f. omega arith in
    let low : 32768 ≤ gy_biased w = omega arith in
    let high : gy_biased w ≤ 32991 = omega arith in
    let rest : gy_biased w % 8 ≡ g % 8 = omega arith in
    rw rest (simp (ne_eqb _ _ n, le-leb _ _ low, le-leb _ _ high))

no-shorter : (inside : Bool) (h r : ℕ) → h ≤ pick inside (max h r) h
no-shorter true h r = omega arith
no-shorter false h r = omega arith

rows-no-shorter : (w : List ℕ) → height_biased w ≤ rows_biased w
unfolding rows_biased
rows-no-shorter w = no-shorter (not (eqb (bgm_of w) 2) && top_in_image_biased w) (height_biased w) _

row_from : (w : List ℕ) (y : ℕ) → gy_biased w ≤ y + 32768 → y + 32768 < gy_biased w + rows_biased w → row_covered_biased w y ≡ true
unfolding row_covered_biased
row_from w y l u = and_both _ _ (le-leb _ _ l) (lt-ltb _ _ u)

row_first : (w : List ℕ) (y : ℕ) → row_covered_biased w y ≡ true → gy_biased w ≤ y + 32768
unfolding row_covered_biased
row_first w y e = leb-true _ _ (and_left _ _ e)

row_last : (w : List ℕ) (y : ℕ) → row_covered_biased w y ≡ true → y + 32768 < gy_biased w + rows_biased w
unfolding row_covered_biased
row_last w y e = ltb-true _ _ (and_right (leb (gy_biased w) (y + 32768)) _ e)

-- what covers a pixel: the world is showing there, and its rows hold the pixel's
module _ (vram : List ℕ) (eye x y n : ℕ) where
  covers-from : Showing vram eye x n → bgm_of (world_of vram n) < 3 → row_covered_biased (world_of vram n) y ≡ true
      → background_covers_of vram eye x y n ≡ true
  unfolding background_covers_of world_covers_biased
  covers-from s b r =
      let mode : bgm_of (world_of vram n) ≡ 3 → ⊥ = λ e. omega arith in
      and_both (reached_of vram n) _ s.reached
      (and_both (not (eqb (bgm_of (world_of vram n)) 3)) _ (not_of_false _ (ne_eqb _ _ mode))
      (sym (world-covers (world_of vram n) eye x y)
      ∙ and_both (world_shown_of (world_of vram n) eye) _ s.shown
      (and_both (row_covered_biased (world_of vram n) y) _ r (column-covered (world_of vram n) eye x ∙ s.column))))

  covers-row : background_covers_of vram eye x y n ≡ true → row_covered_biased (world_of vram n) y ≡ true
  unfolding background_covers_of world_covers_biased
  covers-row e =
      and_left (row_covered_biased (world_of vram n) y) _
      (and_right (world_shown_of (world_of vram n) eye) _
      (world-covers (world_of vram n) eye x y
      ∙ and_right (not (eqb (bgm_of (world_of vram n)) 3)) _ (and_right (reached_of vram n) _ e)))

pub strip-covered : StripCovered
strip-covered vram eye x y n g s t l u =
    let w = world_of vram n in
    let top = top-is w g t.top in
    let rows = rows-in-image w g t.mode top t.in_image in
    let mode : bgm_of w < 3 = omega (arith, t.mode) in
    covers-from vram eye x y n s mode (row_from w y (omega arith) (omega arith))

-- a row that is not one of H + 1 stands above GY or below GY + H
plain-false : (w : List ℕ) (y : ℕ) → plain_row w y ≡ false → gy_biased w ≤ y + 32768 → gy_biased w + height_biased w ≤ y + 32768
plain-false w y e l =
    let tests = plain-row w y ∙ e in
    ltb-false (y + 32768) (gy_biased w + height_biased w) (simp (le-leb _ _ l) at tests)

pub added-in-strip : AddedInStrip
added-in-strip vram eye x y n g t plain covered =
    let w = world_of vram n in
    let top = top-is w g t.top in
    let rows = rows-in-image w g t.mode top t.in_image in
    let held = covers-row vram eye x y n covered in
    let first = row_first w y held in
    let last = row_last w y held in
    let below = plain-false w y plain first in
    omega arith

pub plain-covered : PlainCovered
plain-covered vram eye x y n s b plain =
    let w = world_of vram n in
    let tests = plain-row w y ∙ plain in
    let first : gy_biased w ≤ y + 32768 = leb-true _ _ (and_left _ _ tests) in
    let last : y + 32768 < gy_biased w + height_biased w = ltb-true _ _ (and_right (leb (gy_biased w) (y + 32768)) _ tests) in
    let more = rows-no-shorter w in
    covers-from vram eye x y n s b (row_from w y first (omega arith))

affine-rows : (w : List ℕ) → bgm_of w ≡ 2 → rows_biased w ≡ height_biased w
unfolding rows_biased
affine-rows w b = simp (eq-eqb _ _ b)

plain-else : (mode : Bool) (h r : ℕ) → pick (mode && false) (max h r) h ≡ h
plain-else true h r = refl
plain-else false h r = refl

outside-rows : (w : List ℕ) → top_in_image_biased w ≡ false → rows_biased w ≡ height_biased w
unfolding rows_biased
outside-rows w o =
    ap (λ b. pick (not (eqb (bgm_of w) 2) && b) (max (height_biased w) (8 - gy_biased w % 8)) (height_biased w)) o
    ∙ plain-else (not (eqb (bgm_of w) 2)) (height_biased w) _

-- a world of H + 1 rows covers no other row
plain-alone : (vram : List ℕ) (eye x y n : ℕ) → rows_biased (world_of vram n) ≡ height_biased (world_of vram n)
    → background_covers_of vram eye x y n ≡ true
    → plain_row (world_of vram n) y ≡ true
plain-alone vram eye x y n e covered =
    let w = world_of vram n in
    let held = covers-row vram eye x y n covered in
    let first = row_first w y held in
    let last : y + 32768 < gy_biased w + height_biased w = omega (arith, row_last w y held, e) in
    sym (plain-row w y) ∙ and_both (leb (gy_biased w) (y + 32768)) _ (le-leb _ _ first) (lt-ltb _ _ last)

pub affine-plain : AffinePlain
affine-plain vram eye x y n b = plain-alone vram eye x y n (affine-rows (world_of vram n) b)

pub outside-plain : OutsidePlain
outside-plain vram eye x y n o =
    plain-alone vram eye x y n (outside-rows (world_of vram n) (top-in-image (world_of vram n) ∙ o))

pub five-rows : FiveRows
five-rows w b g h =
    let in_image = rows-in-image w 3 b (top-is w 3 g) (omega arith) in
    let height : height_biased w ≡ 2 = world-height w ∙ ap (λ z. above_zero (z +ℤ pos 1)) h in
    let five : rows_biased w ≡ 5 = omega arith in
    sym (world-rows w) ∙ five
