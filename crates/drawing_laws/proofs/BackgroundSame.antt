-- A background world makes the same of a pixel in two memories that hold the same at its listed bytes.
-- Assumes nothing.
use Prim.Native.Nat.{ℕ, ◌+◌, ◌*◌, ◌%◌}
use mathlib.Core.List.{List, ◌++◌, flat_map}
use mathlib.Core.Path.{◌≡◌, refl}
use lib.Dec.{eqb}
use Rattle.word.specs.LittleEndian.{half_at}
use Rattle.bus.specs.Registers.{gplt_of}
use Rattle.drawing_pixel.specs.Character.{row_address_of, cell_pixel_of}
use Rattle.drawing_pixel.specs.World.{bgm_of}
use Rattle.drawing_pixel.specs.inner.BiasedWindow.{column_in_biased, row_in_biased, world_covers_biased}
use Rattle.drawing_pixel.specs.Background.{parameter_address_of, parameter_of, bias_index_of}
use Rattle.drawing_pixel.specs.inner.BiasedSource.{bias_x_biased, affine_parameter_biased, affine_x_biased, affine_y_biased, source_x_biased, source_y_biased}
use Rattle.drawing_pixel.specs.inner.BiasedCell.{source_cell_address_biased, source_pixel_biased, background_pixel_biased}
use Rattle.drawing_laws.specs.Demand3.{Each, SameByte}
use Rattle.drawing_laws.specs.PixelBytes.{half_bytes_of, affine_bytes_of, parameter_bytes_of}
use Rattle.drawing_laws.specs.inner.SourceBytes.{cell_bytes_biased, background_bytes_biased}
use Rattle.drawing_laws.proofs.Each.{each_left, each_right}
use Rattle.word.proofs.Choices.{pick_same}
use Rattle.drawing_laws.proofs.Halfwords.{half-same}

module _ (first second : List ℕ) where
  abbrev Same : List ℕ → Type 0
  Same = Each (SameByte first second)

  pub cell-pixel-same : (palettes : ℕ → ℕ) (cell column r before : ℕ) → Same (half_bytes_of (row_address_of cell r))
      → cell_pixel_of second palettes cell column r before ≡ cell_pixel_of first palettes cell column r before
  unfolding cell_pixel_of
  cell-pixel-same palettes cell column r before h = rw (half-same first second (row_address_of cell r) h)

  parameter-same : (w : List ℕ) (k : ℕ) → Same (half_bytes_of (parameter_address_of w k)) → parameter_of second w k ≡ parameter_of first w k
  unfolding parameter_of
  parameter-same w k h = half-same first second (parameter_address_of w k) h

  bias-x-same : (w : List ℕ) (eye i j : ℕ) → Same (half_bytes_of (parameter_address_of w (bias_index_of eye j)))
      → bias_x_biased second w eye i j ≡ bias_x_biased first w eye i j
  unfolding bias_x_biased
  bias-x-same w eye i j h = rw (parameter-same w (bias_index_of eye j) h)

  affine-parameter-same : (w : List ℕ) (j k : ℕ) → Same (half_bytes_of (parameter_address_of w (8 * j + k)))
      → affine_parameter_biased second w j k ≡ affine_parameter_biased first w j k
  unfolding affine_parameter_biased
  affine-parameter-same w j k h = rw (parameter-same w (8 * j + k) h)

  affine-x-same : (w : List ℕ) (eye i j : ℕ) → Same (affine_bytes_of w j) → affine_x_biased second w eye i j ≡ affine_x_biased first w eye i j
  unfolding affine_x_biased affine_bytes_of flat_map
  affine-x-same w eye i j h =
      rw (
        affine-parameter-same w j 0 (h.0, (h.1.0, tt)),
        affine-parameter-same w j 1 (h.1.1.0, (h.1.1.1.0, tt)),
        affine-parameter-same w j 3 (h.1.1.1.1.1.1.0, (h.1.1.1.1.1.1.1.0, tt)),
      )

  affine-y-same : (w : List ℕ) (eye i j : ℕ) → Same (affine_bytes_of w j) → affine_y_biased second w eye i j ≡ affine_y_biased first w eye i j
  unfolding affine_y_biased affine_bytes_of flat_map
  affine-y-same w eye i j h =
      rw (
        affine-parameter-same w j 2 (h.1.1.1.1.0, (h.1.1.1.1.1.0, tt)),
        affine-parameter-same w j 1 (h.1.1.0, (h.1.1.1.0, tt)),
        affine-parameter-same w j 4 (h.1.1.1.1.1.1.1.1.0, (h.1.1.1.1.1.1.1.1.1.0, tt)),
      )

  source-x-same : (w : List ℕ) (eye i j : ℕ) → Same (parameter_bytes_of w eye j) → source_x_biased second w eye i j ≡ source_x_biased first w eye i j
  unfolding source_x_biased parameter_bytes_of
  source-x-same w eye i j h =
      pick_same (eqb (bgm_of w) 0) (λ _. refl)
      (λ e. let g = rw e at h in
      pick_same (eqb (bgm_of w) 1) (λ f. bias-x-same w eye i j (rw f at g))
      (λ f. affine-x-same w eye i j (rw f at g)))

  source-y-same : (w : List ℕ) (eye i j : ℕ) → Same (parameter_bytes_of w eye j) → source_y_biased second w eye i j ≡ source_y_biased first w eye i j
  unfolding source_y_biased parameter_bytes_of
  source-y-same w eye i j h =
      pick_same (eqb (bgm_of w) 0) (λ _. refl)
      (λ e. let g = rw e at h in
      pick_same (eqb (bgm_of w) 1) (λ f. refl)
      (λ f. affine-y-same w eye i j (rw f at g)))

  source-pixel-same : (regs w : List ℕ) (sx sy before : ℕ) → Same (cell_bytes_biased first w sx sy)
      → source_pixel_biased second regs w sx sy before ≡ source_pixel_biased first regs w sx sy before
  unfolding source_pixel_biased cell_bytes_biased
  source-pixel-same regs w sx sy before h =
      rw (half-same first second (source_cell_address_biased w sx sy) (h.0, (h.1.0, tt)))
      (cell-pixel-same (gplt_of regs) (half_at first (source_cell_address_biased w sx sy)) (sx % 8) (sy % 8) before h.1.1)

  covering-same : (regs w : List ℕ) (eye before i j : ℕ)
      → Same (parameter_bytes_of w eye j ++ cell_bytes_biased first w (source_x_biased first w eye i j) (source_y_biased first w eye i j))
      → source_pixel_biased second regs w (source_x_biased second w eye i j) (source_y_biased second w eye i j) before
      ≡ source_pixel_biased first regs w (source_x_biased first w eye i j) (source_y_biased first w eye i j) before
  covering-same regs w eye before i j h =
      let parameters = each_left (SameByte first second) (parameter_bytes_of w eye j) _ h in
      let cell = each_right (SameByte first second) (parameter_bytes_of w eye j) _ h in
      rw (source-x-same w eye i j parameters, source-y-same w eye i j parameters) (source-pixel-same regs w _ _ before cell)

  pub background-same : (regs w : List ℕ) (eye x y before : ℕ) → Same (background_bytes_biased first w eye x y)
      → background_pixel_biased second regs w eye x y before ≡ background_pixel_biased first regs w eye x y before
  unfolding background_pixel_biased background_bytes_biased
  background-same regs w eye x y before h =
      pick_same (world_covers_biased w eye x y)
      (λ e. covering-same regs w eye before (column_in_biased w eye x) (row_in_biased w y) (rw e at h))
      (λ _. refl)
