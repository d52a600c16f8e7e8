-- `listed-formula`: the list with a bias, on which the loops are proved, is the list over the integers of the worlds and
-- objects that cover the pixel. Assumes nothing.
use Prim.Native.Nat.{ℕ, zero, suc, ◌+◌, ◌≤◌}
use mathlib.Core.Bool.{Bool, true, false, ◌&&◌, ◌||◌, not, false≢true}
use mathlib.Core.List.{List, [], ◌++◌, flat_map}
use mathlib.Core.Path.{◌≡◌, refl, sym, ap, ap₂, ◌∙◌}
use lib.Dec.{eqb}
use lib.IntN.{ℤ, pos, ◌+ℤ◌}
use lib.ListN.{get_or}
use native.Mathlib.Omega.{arith}
use Rattle.word.specs.Choose.{pick}
use Rattle.word.specs.Bit.{is_set}
use Rattle.word.proofs.Choices.{and_left, test-same}
use Rattle.drawing_pixel.specs.Flags.{eye_flag_of}
use Rattle.drawing_pixel.specs.World.{world_of, end_of, skipped_of, world_shown_of, bgm_of}
use Rattle.drawing_pixel.specs.inner.BiasedWindow.{column_in_biased, row_in_biased, world_covers_biased}
use Rattle.drawing_pixel.specs.inner.BiasedSource.{source_x_biased, source_y_biased}
use Rattle.drawing_pixel.specs.Object.{object_of}
use Rattle.drawing_pixel.specs.SourceFormulas.{source_x, source_y}
use Rattle.drawing_pixel.proofs.WindowFormulas.{column-offset, row-offset, offset-small}
use Rattle.drawing_pixel.proofs.SourceFormulas.{source-x, source-y}
use Rattle.drawing_pixel.proofs.Painting.{source-cell, source-line, shown-column, world-covers, object-line}
use Rattle.drawing_laws.specs.Covers.{reached_of, background_covers_of, object_covers_pixel_of, which_below, covering_worlds_of, covering_objects_of}
use Rattle.drawing_laws.specs.PixelBytes.{parameter_bytes_of, cell_bytes, background_bytes, object_bytes, pixel_bytes_of}
use Rattle.drawing_laws.specs.inner.SourceBytes.{cell_bytes_biased, background_bytes_biased, world_bytes_biased, worlds_bytes_biased}
use Rattle.drawing_laws.specs.inner.SourceBytes.{worlds_draw_biased, object_bytes_biased, objects_bytes_biased, pixel_bytes_biased, ListedFormula}
use Rattle.drawing_laws.proofs.Below.{which-none, flat-more}
use Rattle.drawing_laws.proofs.Reached.{no_end_of, no-end-more, reached, end-stops}
use Rattle.drawing_laws.proofs.Registers.{spt-below}
use Rattle.drawing_laws.proofs.PixelSame.{Starts}
use Rattle.drawing_laws.proofs.DrawnCovers.{drawn-covers}
use Rattle.drawing_laws.proofs.CoversDrawn.{covers-drawn}

cell-formula : (vram w : List ℕ) (x y : ℤ) (sx sy : ℕ) → pos sx ≡ x +ℤ pos 8388608 → pos sy ≡ y +ℤ pos 8388608
    → cell_bytes_biased vram w sx sy ≡ cell_bytes vram w x y
unfolding cell_bytes_biased
cell-formula vram w x y sx sy e f = rw (source-cell w x y sx sy e f, source-line y sy f)

module _ (vram w : List ℕ) (eye x y : ℕ) where
  at-offsets : world_covers_biased w eye x y ≡ true
      → parameter_bytes_of w eye (row_in_biased w y)
      ++ cell_bytes_biased vram w
      (source_x_biased vram w eye (column_in_biased w eye x) (row_in_biased w y))
      (source_y_biased vram w eye (column_in_biased w eye x) (row_in_biased w y))
      ≡ parameter_bytes_of w eye (row_in_biased w y)
      ++ cell_bytes vram w
      (source_x vram w eye (column_in_biased w eye x) (row_in_biased w y))
      (source_y vram w eye (column_in_biased w eye x) (row_in_biased w y))
  at-offsets covered =
      let small = offset-small w eye x (shown-column w eye x y covered) in
      ap (λ (bytes : List ℕ). parameter_bytes_of w eye (row_in_biased w y) ++ bytes)
      (cell-formula vram w
      (source_x vram w eye (column_in_biased w eye x) (row_in_biased w y))
      (source_y vram w eye (column_in_biased w eye x) (row_in_biased w y)) _ _
      (source-x vram w eye (column_in_biased w eye x) (row_in_biased w y) small)
      (source-y vram w eye (column_in_biased w eye x) (row_in_biased w y) small))

  -- the bytes of a world that covers the pixel
  pub covering-bytes : world_covers_biased w eye x y ≡ true
      → parameter_bytes_of w eye (row_in_biased w y)
      ++ cell_bytes_biased vram w
      (source_x_biased vram w eye (column_in_biased w eye x) (row_in_biased w y))
      (source_y_biased vram w eye (column_in_biased w eye x) (row_in_biased w y))
      ≡ background_bytes vram w eye x y
  covering-bytes covered = at-offsets covered ∙ rw (column-offset w eye x, row-offset w y)

-- a world that is skipped is shown to no eye
hidden : (left a b : Bool) → not (a || b) ≡ true → pick left a b ≡ true → ⊥
hidden left true b s c = false≢true s
hidden left false true s c = false≢true s
hidden true false false s c = false≢true c
hidden false false false s c = false≢true c

skipped-hidden : (w : List ℕ) (eye x y : ℕ) → skipped_of w ≡ true → world_covers_biased w eye x y ≡ true → ⊥
unfolding skipped_of world_covers_biased world_shown_of eye_flag_of
skipped-hidden w eye x y s c =
    hidden (eqb eye 0) (is_set 15 (get_or w 0 0)) (is_set 14 (get_or w 0 0)) s
    (and_left (pick (eqb eye 0) (is_set 15 (get_or w 0 0)) (is_set 14 (get_or w 0 0))) _ c)

-- a background world's bytes, none where it does not cover the pixel
chosen : (skipped objects covers : Bool) (u v : List ℕ) → (covers ≡ true → u ≡ v)
    → (skipped ≡ true → covers ≡ true → ⊥)
    → pick skipped [] (pick objects [] (pick covers u [])) ≡ pick (not objects && covers) v []
chosen true true covers u v e n = refl
chosen true false true u v e n = absurd (n refl refl)
chosen true false false u v e n = refl
chosen false true covers u v e n = refl
chosen false false true u v e n = e refl
chosen false false false u v e n = refl

covers-reached : (vram : List ℕ) (eye x y n : ℕ) → background_covers_of vram eye x y n ≡ true → reached_of vram n ≡ true
unfolding background_covers_of
covers-reached vram eye x y n e = and_left (reached_of vram n) _ e

module _ (vram regs : List ℕ) (eye x y : ℕ) where
  abbrev world_part : ℕ → List ℕ
  world_part n = background_bytes vram (world_of vram n) eye x y

  world-bytes : (n : ℕ) → reached_of vram n ≡ true
      → world_bytes_biased vram (world_of vram n) eye x y ≡ pick (background_covers_of vram eye x y n) (world_part n) []
  unfolding world_bytes_biased background_bytes_biased background_covers_of
  world-bytes n r =
      let w = world_of vram n in
      rw (r, ← world-covers w eye x y)
      (chosen (skipped_of w) (eqb (bgm_of w) 3) (world_covers_biased w eye x y) _ (world_part n) (covering-bytes vram w eye x y)
      (skipped-hidden w eye x y))

  worlds-bytes : (n k : ℕ) → n + k ≡ 32 → no_end_of vram n k ≡ true
      → worlds_bytes_biased vram eye x y n ≡ flat_map world_part (which_below n (background_covers_of vram eye x y))
  unfolding worlds_bytes_biased which_below flat_map
  worlds-bytes zero k q h = refl
  worlds-bytes (suc n) k q h = go (end_of (world_of vram n)) refl (worlds-bytes n (suc k) (omega arith))
    where
      go : (b : Bool) → end_of (world_of vram n) ≡ b
          → (no_end_of vram n (suc k) ≡ true
          → worlds_bytes_biased vram eye x y n ≡ flat_map world_part (which_below n (background_covers_of vram eye x y)))
          → pick b [] (world_bytes_biased vram (world_of vram n) eye x y ++ worlds_bytes_biased vram eye x y n)
          ≡ flat_map world_part (which_below (suc n) (background_covers_of vram eye x y))
      go true e later =
          sym (ap (flat_map world_part)
          (which-none (background_covers_of vram eye x y) (suc n)
          (λ m l c. end-stops vram n m (omega arith) (omega arith) e (covers-reached vram eye x y m c))))
      go false e later =
          let on : no_end_of vram n (suc k) ≡ true = no-end-more vram n k e h in
          rw (world-bytes n (reached vram n k q on), later on)
          (sym (flat-more world_part (background_covers_of vram eye x y n) n (which_below n (background_covers_of vram eye x y))))

  abbrev object_part : ℕ → List ℕ
  object_part k = object_bytes (object_of vram k) y

  objects-bytes : (n : ℕ) → Starts regs → n ≤ 1024
      → objects_bytes_biased vram regs eye x y n ≡ flat_map object_part (which_below n (object_covers_pixel_of vram regs eye x y))
  unfolding objects_bytes_biased object_bytes_biased which_below flat_map
  objects-bytes zero s h = refl
  objects-bytes (suc k) s h =
      let drawn : worlds_draw_biased vram regs eye x y 32 3 k ≡ object_covers_pixel_of vram regs eye x y k =
      test-same _ _ (drawn-covers vram regs eye x y k h) (covers-drawn vram regs s eye x y k h) in
      rw (drawn, object-line (object_of vram k) y, objects-bytes k s (omega arith))
      (sym (flat-more object_part (object_covers_pixel_of vram regs eye x y k) k (which_below k (object_covers_pixel_of vram regs eye x y))))

pub listed-formula : ListedFormula
unfolding pixel_bytes_biased pixel_bytes_of covering_worlds_of covering_objects_of no_end_of
listed-formula vram regs eye x y ok =
    ap₂ ◌++◌ (worlds-bytes vram regs eye x y 32 0 refl refl)
    (objects-bytes vram regs eye x y 1024 (spt-below regs ok) (omega arith))
