-- The source of a window's offsets by BGM, and the bytes that are read on the way to it. Assumes nothing.
use Prim.Native.Nat.{ℕ, ◌+◌, ◌-◌, ◌*◌, ◌/◌, ◌%◌, ◌<◌, ◌≤◌}
use native.Mathlib.Omega.{arith}
use native.Mathlib.Decide.{ℕ_discrete}
use mathlib.Core.Bool.{true, false}
use mathlib.Core.List.{List, [], ◌++◌, flat_map}
use mathlib.Core.Path.{◌≡◌, refl}
use lib.ListN.{length}
use Rattle.word.specs.LittleEndian.{half_at}
use Rattle.drawing_pixel.specs.Character.{row_address_of}
use borrow.Author.Tests.{eq-eqb, ne_eqb}
use Rattle.drawing_pixel.specs.inner.BiasedFields.{biased_of, gy_biased}
use Rattle.drawing_pixel.specs.World.{bgm_of, skipped_of}
use Rattle.drawing_pixel.specs.inner.BiasedWindow.{window_left_biased, column_in_biased, row_in_biased, world_covers_biased}
use Rattle.drawing_pixel.specs.Background.{parameter_address_of, parameter_of, bias_index_of}
use Rattle.drawing_pixel.specs.inner.BiasedSource.{plain_left_biased, normal_x_biased, normal_y_biased, bias_x_biased, affine_shift_biased, affine_floor_biased}
use Rattle.drawing_pixel.specs.inner.BiasedSource.{affine_parameter_biased, affine_x_biased, affine_y_biased, source_x_biased, source_y_biased}
use Rattle.drawing_pixel.specs.inner.BiasedCell.{cell_address_biased, source_cell_address_biased}
use Rattle.drawing_laws.specs.PixelBytes.{half_bytes_of, affine_bytes_of, parameter_bytes_of}
use Rattle.drawing_laws.specs.inner.SourceBytes.{cell_bytes_biased, background_bytes_biased, world_bytes_biased}
use Rattle.drawing_bytes.specs.inner.Output.{Listing}
use Rattle.drawing_bytes.proofs.Listings.{listing-more, listing-as}

module _ (vram w : List ℕ) (eye i j : ℕ) where
  pub normal-x : bgm_of w ≡ 0 → plain_left_biased w eye + i ≡ source_x_biased vram w eye i j
  unfolding source_x_biased normal_x_biased
  normal-x e = simp (eq-eqb (bgm_of w) 0 e)

  pub bias-x : bgm_of w ≡ 1 → plain_left_biased w eye + i + biased_of 4096 (parameter_of vram w (bias_index_of eye j)) - 4096 ≡ source_x_biased vram w eye i j
  unfolding source_x_biased bias_x_biased normal_x_biased
  bias-x e = simp (ne_eqb (bgm_of w) 0 (λ f. omega arith), eq-eqb (bgm_of w) 1 e)

  pub affine-x : (bgm_of w ≡ 0 → ⊥) → (bgm_of w ≡ 1 → ⊥)
      → affine_floor_biased (affine_parameter_biased vram w j 0) (affine_parameter_biased vram w j 3) (i + affine_shift_biased eye (affine_parameter_biased vram w j 1))
      ≡ source_x_biased vram w eye i j
  unfolding source_x_biased affine_x_biased
  affine-x m n = simp (ne_eqb (bgm_of w) 0 m, ne_eqb (bgm_of w) 1 n)

  pub plain-y : bgm_of w < 2 → normal_y_biased w j ≡ source_y_biased vram w eye i j
  unfolding source_y_biased
  plain-y h = elim (ℕ_discrete (bgm_of w) 1) [
    | yes e ↦ simp (ne_eqb (bgm_of w) 0 (λ f. omega arith), eq-eqb (bgm_of w) 1 e)
    | no n ↦ simp (eq-eqb (bgm_of w) 0 (omega arith))
  ]

  pub affine-y : 2 ≤ bgm_of w
      → affine_floor_biased (affine_parameter_biased vram w j 2) (affine_parameter_biased vram w j 4) (i + affine_shift_biased eye (affine_parameter_biased vram w j 1))
      ≡ source_y_biased vram w eye i j
  unfolding source_y_biased affine_y_biased
  affine-y h = simp (ne_eqb (bgm_of w) 0 (λ e. omega arith), ne_eqb (bgm_of w) 1 (λ e. omega arith))

module _ (w : List ℕ) (eye j : ℕ) where
  pub normal-parameters : bgm_of w ≡ 0 → [] ≡ parameter_bytes_of w eye j
  unfolding parameter_bytes_of
  normal-parameters e = simp (eq-eqb (bgm_of w) 0 e)

  pub bias-parameters : bgm_of w ≡ 1 → half_bytes_of (parameter_address_of w (bias_index_of eye j)) ≡ parameter_bytes_of w eye j
  unfolding parameter_bytes_of
  bias-parameters e = simp (ne_eqb (bgm_of w) 0 (λ f. omega arith), eq-eqb (bgm_of w) 1 e)

  pub affine-parameters : (bgm_of w ≡ 0 → ⊥) → (bgm_of w ≡ 1 → ⊥) → affine_bytes_of w j ≡ parameter_bytes_of w eye j
  unfolding parameter_bytes_of
  affine-parameters m n = simp (ne_eqb (bgm_of w) 0 m, ne_eqb (bgm_of w) 1 n)

module _ (vram w : List ℕ) (eye x y : ℕ) where
  pub background-none : world_covers_biased w eye x y ≡ false → [] ≡ background_bytes_biased vram w eye x y
  unfolding background_bytes_biased
  background-none e = rw e

  pub background-there : (i j sx sy : ℕ) → world_covers_biased w eye x y ≡ true → i ≡ x + 1024 - window_left_biased w eye → j ≡ y + 32768 - gy_biased w
      → sx ≡ source_x_biased vram w eye i j → sy ≡ source_y_biased vram w eye i j
      → parameter_bytes_of w eye j ++ cell_bytes_biased vram w sx sy ≡ background_bytes_biased vram w eye x y
  unfolding background_bytes_biased column_in_biased row_in_biased
  background-there i j sx sy e f g p q = rw (p, q, f, g, e)

  pub world-skipped : skipped_of w ≡ true → [] ≡ world_bytes_biased vram w eye x y
  unfolding world_bytes_biased
  world-skipped e = rw e

  pub world-objects : skipped_of w ≡ false → bgm_of w ≡ 3 → [] ≡ world_bytes_biased vram w eye x y
  unfolding world_bytes_biased
  world-objects e f = rw e (simp (eq-eqb (bgm_of w) 3 f))

  pub world-background : skipped_of w ≡ false → (bgm_of w ≡ 3 → ⊥) → background_bytes_biased vram w eye x y ≡ world_bytes_biased vram w eye x y
  unfolding world_bytes_biased
  world-background e f = rw e (simp (ne_eqb (bgm_of w) 3 f))

-- the lists that are written halfword by halfword
module _ (w : List ℕ) (j n r₀ r₁ r₂ r₃ r₄ a₀ a₁ a₂ a₃ a₄ : ℕ) (m₀ m₁ m₂ m₃ m₄ m₅ : List ℕ) where
  affine-five : a₀ ≡ parameter_address_of w (8 * j) → a₁ ≡ parameter_address_of w (8 * j + 1) → a₂ ≡ parameter_address_of w (8 * j + 2)
      → a₃ ≡ parameter_address_of w (8 * j + 3) → a₄ ≡ parameter_address_of w (8 * j + 4)
      → half_bytes_of a₀ ++ (half_bytes_of a₁ ++ (half_bytes_of a₂ ++ (half_bytes_of a₃ ++ half_bytes_of a₄))) ≡ affine_bytes_of w j
  unfolding affine_bytes_of flat_map
  affine-five e₀ e₁ e₂ e₃ e₄ = let z : 8 * j + 0 ≡ 8 * j = omega arith in rw (e₀, e₁, e₂, e₃, e₄, z)

  pub affine-listing : a₀ ≡ parameter_address_of w (8 * j) → a₁ ≡ parameter_address_of w (8 * j + 1) → a₂ ≡ parameter_address_of w (8 * j + 2)
      → a₃ ≡ parameter_address_of w (8 * j + 3) → a₄ ≡ parameter_address_of w (8 * j + 4)
      → Listing n (half_bytes_of a₀) r₀ m₀ m₁ → Listing r₀ (half_bytes_of a₁) r₁ m₁ m₂ → Listing r₁ (half_bytes_of a₂) r₂ m₂ m₃
      → Listing r₂ (half_bytes_of a₃) r₃ m₃ m₄ → Listing r₃ (half_bytes_of a₄) r₄ m₄ m₅ → Listing n (affine_bytes_of w j) r₄ m₀ m₅
  affine-listing e₀ e₁ e₂ e₃ e₄ p q s t u =
      listing-as n r₄ _ (affine_bytes_of w j) m₀ m₅ (affine-five e₀ e₁ e₂ e₃ e₄)
      (listing-more n r₀ r₄ (half_bytes_of a₀) _ m₀ m₁ m₅ p
      (listing-more r₀ r₁ r₄ (half_bytes_of a₁) _ m₁ m₂ m₅ q
      (listing-more r₁ r₂ r₄ (half_bytes_of a₂) _ m₂ m₃ m₅ s
      (listing-more r₂ r₃ r₄ (half_bytes_of a₃) (half_bytes_of a₄) m₃ m₄ m₅ t u))))

pub affine-length : (w : List ℕ) (j : ℕ) → length (affine_bytes_of w j) ≡ 10
unfolding affine_bytes_of flat_map
affine-length w j = refl

pub cell-listing : (vram w : List ℕ) (sx sy n r s at cell row : ℕ) (m₀ m₁ m₂ : List ℕ) → at ≡ cell_address_biased w (sx / 8) (sy / 8)
    → cell ≡ half_at vram at → row ≡ row_address_of cell (sy % 8) → Listing n (half_bytes_of at) r m₀ m₁ → Listing r (half_bytes_of row) s m₁ m₂
    → Listing n (cell_bytes_biased vram w sx sy) s m₀ m₂
unfolding cell_bytes_biased source_cell_address_biased
cell-listing vram w sx sy n r s at cell row m₀ m₁ m₂ e f g p q =
    listing-more n r s (half_bytes_of (cell_address_biased w (sx / 8) (sy / 8))) _ m₀ m₁ m₂ (rw e at p) (rw (g, f, e) at q)

pub cell-length : (vram w : List ℕ) (sx sy : ℕ) → length (cell_bytes_biased vram w sx sy) ≡ 4
unfolding cell_bytes_biased
cell-length vram w sx sy = refl
