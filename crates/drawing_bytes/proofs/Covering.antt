-- Whether a background world or an object covers a pixel, by each test of the code. Assumes nothing.
use Prim.Native.Nat.{ℕ, ◌+◌, ◌<◌, ◌≤◌}
use mathlib.Core.Bool.{true, false, and-false}
use mathlib.Core.List.{List}
use mathlib.Core.Path.{◌≡◌}
use lib.ListN.{get_or}
use lib.Dec.{ltb}
use borrow.Author.Tests.{lt-leb, le-leb, le-ltb, lt-ltb, leb-true}
use Rattle.drawing_pixel.specs.Flags.{eye_flag_of}
use Rattle.drawing_pixel.specs.inner.BiasedFields.{gy_biased}
use Rattle.drawing_pixel.specs.inner.BiasedWindow.{rows_biased, columns_biased, window_left_biased, column_covered_biased, row_covered_biased, world_covers_biased}
use Rattle.drawing_pixel.specs.World.{world_shown_of}
use Rattle.drawing_pixel.specs.Object.{object_shown_of}
use Rattle.drawing_pixel.specs.inner.BiasedObject.{object_row_biased, object_left_biased, object_covers_biased}
use Rattle.word.proofs.Choices.{and_left, and_right}

module _ (w : List ℕ) (eye x y : ℕ) where
  pub world-hidden : eye_flag_of eye (get_or w 0 0) ≡ false → false ≡ world_covers_biased w eye x y
  unfolding world_covers_biased world_shown_of
  world-hidden e = rw e

  pub world-below : y + 32768 < gy_biased w → false ≡ world_covers_biased w eye x y
  unfolding world_covers_biased row_covered_biased
  world-below h = simp (lt-leb _ _ h, and-false)

  pub world-above : gy_biased w + rows_biased w ≤ y + 32768 → false ≡ world_covers_biased w eye x y
  unfolding world_covers_biased row_covered_biased
  world-above h = simp (le-ltb _ _ h, and-false)

  pub world-right : x + 1024 < window_left_biased w eye → false ≡ world_covers_biased w eye x y
  unfolding world_covers_biased column_covered_biased
  world-right h = simp (lt-leb _ _ h, and-false)

  pub world-there : eye_flag_of eye (get_or w 0 0) ≡ true → gy_biased w ≤ y + 32768 → y + 32768 < gy_biased w + rows_biased w
      → window_left_biased w eye ≤ x + 1024 → ltb (x + 1024) (window_left_biased w eye + columns_biased w) ≡ world_covers_biased w eye x y
  unfolding world_covers_biased world_shown_of row_covered_biased column_covered_biased
  world-there e a b l = rw e (simp (le-leb _ _ a, lt-ltb _ _ b, le-leb _ _ l))

  -- a world that covers the pixel begins at its column and row or before them
  pub world-left : world_covers_biased w eye x y ≡ true → window_left_biased w eye ≤ x + 1024
  unfolding world_covers_biased column_covered_biased
  world-left e =
      leb-true (window_left_biased w eye) (x + 1024)
      (and_left _ _ (and_right (row_covered_biased w y) _ (and_right (world_shown_of w eye) _ e)))

  pub world-top : world_covers_biased w eye x y ≡ true → gy_biased w ≤ y + 32768
  unfolding world_covers_biased row_covered_biased
  world-top e =
      leb-true (gy_biased w) (y + 32768)
      (and_left _ _ (and_left _ (column_covered_biased w eye x) (and_right (world_shown_of w eye) _ e)))

module _ (o : List ℕ) (eye x y : ℕ) where
  pub object-hidden : eye_flag_of eye (get_or o 1 0) ≡ false → false ≡ object_covers_biased o eye x y
  unfolding object_covers_biased object_shown_of
  object-hidden e = rw e

  pub object-elsewhere : 8 ≤ object_row_biased o y → false ≡ object_covers_biased o eye x y
  unfolding object_covers_biased
  object-elsewhere h = simp (le-ltb _ _ h, and-false)

  pub object-right : x + 1024 < object_left_biased o eye → false ≡ object_covers_biased o eye x y
  unfolding object_covers_biased
  object-right h = simp (lt-leb _ _ h, and-false)

  pub object-there : eye_flag_of eye (get_or o 1 0) ≡ true → object_row_biased o y < 8 → object_left_biased o eye ≤ x + 1024
      → ltb (x + 1024) (object_left_biased o eye + 8) ≡ object_covers_biased o eye x y
  unfolding object_covers_biased object_shown_of
  object-there e r l = rw e (simp (lt-ltb _ _ r, le-leb _ _ l))
