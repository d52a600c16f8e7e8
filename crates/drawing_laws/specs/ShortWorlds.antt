-- W3 of paper 02, "Short worlds are taller on the chip", in the request's own words and of "covers" (specs/Covers).
-- The proofs are `strip-covered`, `added-in-strip`, `plain-covered`, `affine-plain`, `outside-plain` and `five-rows` in
-- proofs/. GY and H are signed; strip s is rows 8s to 8s + 7, so that the strip holding row g ends above row
-- 8 (g / 8 + 1).
use Rattle.std.specs.Prelude.{ℕ, ◌+◌, ◌*◌, ◌/◌, ◌≤◌, ◌<◌, true, false, ◌&&◌, List, ◌≡◌, pos, ◌+ℤ◌}
use Rattle.std.specs.Int.Signed.{le_z, lt_z}
use Rattle.drawing_pixel.specs.World.{world_of, bgm_of, world_shown_of}
use Rattle.drawing_pixel.specs.Fields.{GY, W, H}
use Rattle.drawing_pixel.specs.HeightFormulas.{top_in_image, rows}
use Rattle.drawing_pixel.specs.WindowFormulas.{window_left, plain_row}
use Rattle.drawing_laws.specs.Covers.{reached_of, background_covers_of}

-- world n is reached, shown to the eye, and its columns hold column x: GX -/+ GP ≤ x < GX -/+ GP + (W + 1)
pub record Showing (vram : List ℕ) (eye x n : ℕ) : Type 0 where
  pub reached : reached_of vram n ≡ true
  pub shown : world_shown_of (world_of vram n) eye ≡ true
  pub column :
      let w = world_of vram n in
      le_z (window_left w eye) (pos x) && lt_z (pos x) (window_left w eye +ℤ (W w +ℤ pos 1)) ≡ true

-- world n is normal or H-bias, and its GY is g, from 0 to 223
pub record WorldTopInImage (vram : List ℕ) (n g : ℕ) : Type 0 where
  pub mode : bgm_of (world_of vram n) < 2
  pub top : GY (world_of vram n) ≡ pos g
  pub in_image : g ≤ 223

-- "normal and H-bias worlds cover at least everything from GY to the end of the strip holding it";
-- "This is for GY from 0 to 223"
abbrev pub StripCovered : Type 0
StripCovered =
    (vram : List ℕ) (eye x y n g : ℕ) → Showing vram eye x n
    → WorldTopInImage vram n g
    → g ≤ y
    → y < 8 * (g / 8 + 1)
    → background_covers_of vram eye x y n ≡ true

-- a row that H + 1 does not cover is covered only in the strip that holds GY
abbrev pub AddedInStrip : Type 0
AddedInStrip =
    (vram : List ℕ) (eye x y n g : ℕ) → WorldTopInImage vram n g
    → plain_row (world_of vram n) y ≡ false
    → background_covers_of vram eye x y n ≡ true
    → y / 8 ≡ g / 8

-- no background world is shorter than H + 1
abbrev pub PlainCovered : Type 0
PlainCovered =
    (vram : List ℕ) (eye x y n : ℕ) → Showing vram eye x n
    → bgm_of (world_of vram n) < 3
    → plain_row (world_of vram n) y ≡ true
    → background_covers_of vram eye x y n ≡ true

-- "affine worlds keep the plain rule"
abbrev pub AffinePlain : Type 0
AffinePlain =
    (vram : List ℕ) (eye x y n : ℕ) → bgm_of (world_of vram n) ≡ 2
    → background_covers_of vram eye x y n ≡ true
    → plain_row (world_of vram n) y ≡ true

-- where no strip of the image holds GY, a world covers no row that H + 1 does not (R5)
abbrev pub OutsidePlain : Type 0
OutsidePlain =
    (vram : List ℕ) (eye x y n : ℕ) → top_in_image (world_of vram n) ≡ false
    → background_covers_of vram eye x y n ≡ true
    → plain_row (world_of vram n) y ≡ true

-- "with GY 3 and a stored H of 1, 5 rows"
abbrev pub FiveRows : Type 0
FiveRows = (w : List ℕ) → bgm_of w < 2 → GY w ≡ pos 3 → H w ≡ pos 1 → rows w ≡ 5
