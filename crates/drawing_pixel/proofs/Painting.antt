-- `background-formula`, `object-formula` and `pixel-formula`: the statements of specs/inner/Painting.
use Prim.Native.Nat.{ℕ, zero, suc, ◌%◌}
use mathlib.Core.Path.{◌≡◌, refl, ap, ◌∙◌}
use mathlib.Core.Bool.{true, ◌&&◌}
use mathlib.Core.List.{List}
use lib.IntN.{ℤ, pos, ◌+ℤ◌}
use Rattle.word.specs.Choose.{pick}
use Rattle.bus.specs.Registers.{spt_of, bkcol_of}
use Rattle.drawing_pixel.specs.World.{world_of, world_shown_of}
use Rattle.drawing_pixel.specs.inner.BiasedWindow.{column_in_biased, row_in_biased, world_covers_biased, row_covered_biased, column_covered_biased}
use Rattle.drawing_pixel.specs.inner.BiasedCell.{cell_address_biased, source_cell_address_biased, source_pixel_biased, background_pixel_biased}
use Rattle.drawing_pixel.specs.Object.{object_of, object_after_of, group_count_of}
use Rattle.drawing_pixel.specs.inner.BiasedObject.{object_row_biased, object_pixel_biased, objects_pixel_biased, group_pixel_biased}
use Rattle.drawing_pixel.specs.inner.Painting.{world_pixel_biased, worlds_pixel_biased, pixel_biased, WorldCovers, ObjectCovered}
use Rattle.drawing_pixel.specs.inner.Painting.{BackgroundFormula, ObjectFormula, PixelFormula}
use Rattle.word.specs.Integers.{above_zero}
use Rattle.word.proofs.Choices.{and_right, pick_same}
use Rattle.word.proofs.Integers.{above-natural}
use Rattle.word.specs.Floors.{mod_z}
use Rattle.drawing_pixel.proofs.WindowFormulas.{column-covered, row-covered, column-offset, row-offset, offset-small}
use Rattle.drawing_pixel.specs.SourceFormulas.{source_x, source_y}
use Rattle.drawing_pixel.proofs.SourceFormulas.{source-x, source-y}
use Rattle.drawing_pixel.proofs.CellFormulas.{source-wraps, source-wraps-down, source-in-cell, source-inside, map-cell}
use Rattle.drawing_pixel.proofs.ObjectFormulas.{object-covers, object-offset, object-row}
use Rattle.drawing_pixel.specs.Pixel.{cell_address, object_row, source_pixel, background_pixel, objects_pixel, world_pixel, worlds_pixel, counter_of, pixel_of}

-- the cell of a source pixel, and its row in that cell
pub source-cell : (w : List ℕ) (x y : ℤ) (sx sy : ℕ) → pos sx ≡ x +ℤ pos 8388608 → pos sy ≡ y +ℤ pos 8388608
    → source_cell_address_biased w sx sy ≡ cell_address w x y
unfolding source_cell_address_biased cell_address_biased
source-cell w x y sx sy e f =
    let s = above-natural (source-wraps w x sx e) in
    let t = above-natural (source-wraps-down w y sy f) in
    rw (source-inside w x y sx sy e f, map-cell w x y sx sy _ _ e f s t)

pub source-line : (y : ℤ) (sy : ℕ) → pos sy ≡ y +ℤ pos 8388608 → sy % 8 ≡ above_zero (mod_z y 8)
source-line y sy f = ap above_zero (source-in-cell y sy f)

source-pixel : (vram regs w : List ℕ) (x y : ℤ) (sx sy before : ℕ) → pos sx ≡ x +ℤ pos 8388608 → pos sy ≡ y +ℤ pos 8388608
    → source_pixel_biased vram regs w sx sy before ≡ source_pixel vram regs w x y before
unfolding source_pixel_biased
source-pixel vram regs w x y sx sy before e f =
    rw (source-cell w x y sx sy e f, source-line x sx e, source-line y sy f)

pub world-covers : WorldCovers
unfolding world_covers_biased
world-covers w eye x y = rw (row-covered w y, column-covered w eye x)

pub shown-column : (w : List ℕ) (eye x y : ℕ) → world_covers_biased w eye x y ≡ true → column_covered_biased w eye x ≡ true
unfolding world_covers_biased
shown-column w eye x y e =
    and_right (row_covered_biased w y) (column_covered_biased w eye x)
    (and_right (world_shown_of w eye) (row_covered_biased w y && column_covered_biased w eye x) e)

module _ (vram regs w : List ℕ) (eye x y before : ℕ) where
  at-offsets : background_pixel_biased vram regs w eye x y before
      ≡ pick (world_covers_biased w eye x y)
      (source_pixel vram regs w
      (source_x vram w eye (column_in_biased w eye x) (row_in_biased w y))
      (source_y vram w eye (column_in_biased w eye x) (row_in_biased w y))
      before)
      before
  unfolding background_pixel_biased
  at-offsets =
      pick_same (world_covers_biased w eye x y)
      (λ covered.
      let small = offset-small w eye x (shown-column w eye x y covered) in
      source-pixel vram regs w
      (source_x vram w eye (column_in_biased w eye x) (row_in_biased w y))
      (source_y vram w eye (column_in_biased w eye x) (row_in_biased w y)) _ _ before
      (source-x vram w eye (column_in_biased w eye x) (row_in_biased w y) small)
      (source-y vram w eye (column_in_biased w eye x) (row_in_biased w y) small))
      (λ _. refl)

  at-window : background_pixel_biased vram regs w eye x y before ≡ background_pixel vram regs w eye x y before
  at-window = at-offsets ∙ rw (world-covers w eye x y, column-offset w eye x, row-offset w y)

pub background-formula : BackgroundFormula
background-formula vram regs w eye x y before = at-window vram regs w eye x y before

pub object-covered : ObjectCovered
object-covered o eye x y = object-covers o eye x y

-- the object's row, as a natural number
pub object-line : (o : List ℕ) (y : ℕ) → object_row_biased o y ≡ above_zero (object_row o y)
object-line o y = ap above_zero (object-row o y)

pub object-formula : ObjectFormula
unfolding object_pixel_biased
object-formula vram regs o eye x y before =
    rw (object-covered o eye x y, object-offset o eye x, object-line o y)

module _ (vram regs : List ℕ) (eye x y : ℕ) where
  objects-formula : (count k before : ℕ)
      → objects_pixel_biased vram regs eye x y count k before ≡ objects_pixel vram regs eye x y count k before
  unfolding objects_pixel_biased objects_pixel
  objects-formula zero k before = refl
  objects-formula (suc count) k before =
      rw (object-formula vram regs (object_of vram k) eye x y before) (objects-formula count (object_after_of k) _)

  world-formula : (w : List ℕ) (counter before : ℕ)
      → world_pixel_biased vram regs w counter eye x y before ≡ world_pixel vram regs w counter eye x y before
  unfolding world_pixel_biased world_pixel group_pixel_biased
  world-formula w counter before =
      rw (background-formula vram regs w eye x y before, objects-formula (group_count_of regs counter) (spt_of regs counter) before)

  worlds-formula : (n counter before : ℕ)
      → worlds_pixel_biased vram regs eye x y n counter before ≡ worlds_pixel vram regs eye x y n counter before
  unfolding worlds_pixel_biased worlds_pixel
  worlds-formula zero counter before = refl
  worlds-formula (suc n) counter before =
      rw (world-formula (world_of vram n) counter before, worlds-formula n (counter_of (world_of vram n) counter) _)

pub pixel-formula : PixelFormula
unfolding pixel_biased pixel_of
pixel-formula vram regs eye x y = worlds-formula vram regs eye x y 32 3 (bkcol_of regs)
