-- What a background world or an object makes of a pixel in its window or square, and outside of it. Assumes nothing.
use Prim.Native.Nat.{ℕ, ◌+◌, ◌-◌, ◌<◌, ◌≤◌}
use mathlib.Core.Path.{◌≡◌}
use mathlib.Core.Bool.{true, false, and-false}
use mathlib.Core.List.{List}
use lib.ListN.{get_or}
use borrow.Author.Tests.{lt-leb, le-leb, le-ltb, lt-ltb, ltb-true}
use Rattle.word.proofs.Choices.{and_left, and_right}
use Rattle.bus.specs.Registers.{jplt_of}
use Rattle.drawing_pixel.specs.Character.{cell_pixel_of}
use Rattle.drawing_pixel.specs.inner.BiasedFields.{gy_biased}
use Rattle.drawing_pixel.specs.inner.BiasedWindow.{rows_biased, columns_biased, window_left_biased, column_covered_biased, row_covered_biased, column_in_biased}
use Rattle.drawing_pixel.specs.inner.BiasedWindow.{row_in_biased, world_covers_biased}
use Rattle.drawing_pixel.specs.World.{world_shown_of}
use Rattle.drawing_pixel.specs.inner.BiasedCell.{source_pixel_biased, background_pixel_biased}
use Rattle.drawing_pixel.specs.inner.BiasedSource.{source_x_biased, source_y_biased}
use Rattle.drawing_pixel.specs.Object.{object_shown_of}
use Rattle.drawing_pixel.specs.inner.BiasedObject.{object_row_biased, object_left_biased, object_column_biased, object_covers_biased, object_pixel_biased}

module _ (vram regs w : List ℕ) (eye x y v : ℕ) where
  pub background-inside : world_shown_of w eye ≡ true → gy_biased w ≤ y + 32768 → y + 32768 < gy_biased w + rows_biased w
      → window_left_biased w eye ≤ x + 1024 → x + 1024 < window_left_biased w eye + columns_biased w
      → background_pixel_biased vram regs w eye x y v
      ≡ source_pixel_biased vram regs w
      (source_x_biased vram w eye (x + 1024 - window_left_biased w eye) (y + 32768 - gy_biased w))
      (source_y_biased vram w eye (x + 1024 - window_left_biased w eye) (y + 32768 - gy_biased w)) v
  unfolding background_pixel_biased world_covers_biased column_covered_biased row_covered_biased column_in_biased row_in_biased
  background-inside s a b l r = rw s (simp (le-leb _ _ a, lt-ltb _ _ b, le-leb _ _ l, lt-ltb _ _ r))

  pub background-hidden : world_shown_of w eye ≡ false → background_pixel_biased vram regs w eye x y v ≡ v
  unfolding background_pixel_biased world_covers_biased
  background-hidden s = rw s

  pub background-above : y + 32768 < gy_biased w → background_pixel_biased vram regs w eye x y v ≡ v
  unfolding background_pixel_biased world_covers_biased row_covered_biased
  background-above h = simp (lt-leb _ _ h, and-false)

  pub background-below : gy_biased w + rows_biased w ≤ y + 32768 → background_pixel_biased vram regs w eye x y v ≡ v
  unfolding background_pixel_biased world_covers_biased row_covered_biased
  background-below h = simp (le-ltb _ _ h, and-false)

  pub background-left : x + 1024 < window_left_biased w eye → background_pixel_biased vram regs w eye x y v ≡ v
  unfolding background_pixel_biased world_covers_biased column_covered_biased
  background-left h = simp (lt-leb _ _ h, and-false)

  pub background-right : window_left_biased w eye + columns_biased w ≤ x + 1024 → background_pixel_biased vram regs w eye x y v ≡ v
  unfolding background_pixel_biased world_covers_biased column_covered_biased
  background-right h = simp (le-ltb _ _ h, and-false)

module _ (vram regs o : List ℕ) (eye x y v : ℕ) where
  pub object-inside : object_shown_of o eye ≡ true → object_row_biased o y < 8 → object_left_biased o eye ≤ x + 1024 → x + 1024 < object_left_biased o eye + 8
      → object_pixel_biased vram regs o eye x y v
      ≡ cell_pixel_of vram (jplt_of regs) (get_or o 3 0) (x + 1024 - object_left_biased o eye) (object_row_biased o y) v
  unfolding object_pixel_biased object_covers_biased object_column_biased
  object-inside s r a b = rw s (simp (lt-ltb _ _ r, le-leb _ _ a, lt-ltb _ _ b))

  pub object-hidden : object_shown_of o eye ≡ false → object_pixel_biased vram regs o eye x y v ≡ v
  unfolding object_pixel_biased object_covers_biased
  object-hidden s = rw s

  pub object-outside-rows : 8 ≤ object_row_biased o y → object_pixel_biased vram regs o eye x y v ≡ v
  unfolding object_pixel_biased object_covers_biased
  object-outside-rows h = simp (le-ltb _ _ h, and-false)

  pub object-left : x + 1024 < object_left_biased o eye → object_pixel_biased vram regs o eye x y v ≡ v
  unfolding object_pixel_biased object_covers_biased
  object-left h = simp (lt-leb _ _ h, and-false)

  pub object-right : object_left_biased o eye + 8 ≤ x + 1024 → object_pixel_biased vram regs o eye x y v ≡ v
  unfolding object_pixel_biased object_covers_biased
  object-right h = simp (le-ltb _ _ h, and-false)

-- an object that covers a pixel has a row there
pub object-covers-row : (o : List ℕ) (eye x y : ℕ) → object_covers_biased o eye x y ≡ true → object_row_biased o y < 8
unfolding object_covers_biased
object-covers-row o eye x y e = ltb-true (object_row_biased o y) 8 (and_left _ _ (and_right (object_shown_of o eye) _ e))
