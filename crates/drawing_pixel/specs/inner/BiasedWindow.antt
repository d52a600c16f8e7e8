-- Inner: a world's window with biased positions: its left edge by 1,024, its top by 32,768. Each statement says that a
-- biased quantity is paper 01's; the proofs are in proofs/WindowFormulas and proofs/HeightFormulas.
use Rattle.std.specs.Prelude.{ℕ, ◌+◌, ◌-◌, ◌%◌, max, ◌≡◌, Bool, ◌&&◌, not, List, get_or, eqb, leb, ltb, pos, ◌+ℤ◌, ◌-ℤ◌, ◌≤ℤ◌}
use Rattle.std.specs.Int.Signed.{le_z, lt_z}
use Rattle.word.specs.Choose.{pick}
use Rattle.word.specs.Integers.{above_zero}
use Rattle.drawing_pixel.specs.World.{bgm_of, world_shown_of}
use Rattle.drawing_pixel.specs.Fields.{GY, W, H}
use Rattle.drawing_pixel.specs.HeightFormulas.{top_in_image, strip_rest, rows}
use Rattle.drawing_pixel.specs.WindowFormulas.{window_left, plain_row}
use Rattle.drawing_pixel.specs.inner.BiasedFields.{biased_of, gx_biased, gp_biased, gy_biased, edge_biased}

-- the columns of a world: W + 1, none where that is not above 0. W is 13 bits signed; affine, 10 bits unsigned
unfoldable pub columns_biased : List ℕ → ℕ
columns_biased w = pick (eqb (bgm_of w) 2) (get_or w 7 0 % 1024 + 1) (biased_of 4096 (get_or w 7 0) + 1 - 4096)

-- R3: W + 1 columns, none where that is not above 0
abbrev pub WorldColumns : Type 0
WorldColumns =
    (w : List ℕ) → columns_biased w ≡ above_zero (W w +ℤ pos 1)

-- H + 1, none where that is not above 0. H is 16 bits signed
abbrev pub height_biased : List ℕ → ℕ
height_biased w = biased_of 32768 (get_or w 8 0) + 1 - 32768

-- R4: H + 1, none where that is not above 0
abbrev pub WorldHeight : Type 0
WorldHeight =
    (w : List ℕ) → height_biased w ≡ above_zero (H w +ℤ pos 1)

-- whether GY is from 0 to 223, so that a strip of the image holds it
abbrev pub top_in_image_biased : List ℕ → Bool
top_in_image_biased w = leb 32768 (gy_biased w) && leb (gy_biased w) (223 + 32768)

abbrev pub TopInImage : Type 0
TopInImage =
    (w : List ℕ) → top_in_image_biased w ≡ top_in_image w

-- W3: "from GY to the end of the strip holding it" are 8 - GY mod 8 rows; GY's bias is a multiple of 8
abbrev pub strip_rest_biased : List ℕ → ℕ
strip_rest_biased w = 8 - gy_biased w % 8

abbrev pub StripRest : Type 0
StripRest =
    (w : List ℕ) → strip_rest_biased w ≡ strip_rest w

-- the rows of a world: H + 1; a normal or H-bias world whose GY a strip of the image holds has at least those to the
-- end of that strip
unfoldable pub rows_biased : List ℕ → ℕ
rows_biased w =
    pick (not (eqb (bgm_of w) 2) && top_in_image_biased w) (max (height_biased w) (strip_rest_biased w)) (height_biased w)

abbrev pub WorldRows : Type 0
WorldRows =
    (w : List ℕ) → rows_biased w ≡ rows w

-- the window's left edge for an eye, plus 1,024: GX - GP left, GX + GP right
unfoldable pub window_left_biased : List ℕ → ℕ → ℕ
window_left_biased w eye = edge_biased eye (gx_biased w) (gp_biased w)

-- 01: "from (GX - GP, GY) left, (GX + GP, GY) right"
abbrev pub WindowLeft : Type 0
WindowLeft =
    (w : List ℕ) (eye : ℕ) → pos (window_left_biased w eye) ≡ window_left w eye +ℤ pos 1024

abbrev pub WindowTop : Type 0
WindowTop =
    (w : List ℕ) → pos (gy_biased w) ≡ GY w +ℤ pos 32768

-- whether an image column is in the window
unfoldable pub column_covered_biased : List ℕ → ℕ → ℕ → Bool
column_covered_biased w eye x =
    leb (window_left_biased w eye) (x + 1024) && ltb (x + 1024) (window_left_biased w eye + columns_biased w)

-- 01: "Window: W + 1 by H + 1": a column is covered exactly where GX -/+ GP ≤ x < GX -/+ GP + (W + 1)
abbrev pub ColumnCovered : Type 0
ColumnCovered =
    (w : List ℕ) (eye x : ℕ)
    → column_covered_biased w eye x ≡ le_z (window_left w eye) (pos x) && lt_z (pos x) (window_left w eye +ℤ (W w +ℤ pos 1))

-- whether an image row is in the window
unfoldable pub row_covered_biased : List ℕ → ℕ → Bool
row_covered_biased w y = leb (gy_biased w) (y + 32768) && ltb (y + 32768) (gy_biased w + rows_biased w)

-- a row is covered exactly where GY ≤ y < GY + rows
abbrev pub RowCovered : Type 0
RowCovered =
    (w : List ℕ) (y : ℕ) → row_covered_biased w y ≡ le_z (GY w) (pos y) && lt_z (pos y) (GY w +ℤ pos (rows w))

abbrev pub PlainRow : Type 0
PlainRow =
    (w : List ℕ) (y : ℕ)
    → leb (gy_biased w) (y + 32768) && ltb (y + 32768) (gy_biased w + height_biased w) ≡ plain_row w y

-- i and j, the offsets of an image column and row in the window
unfoldable pub column_in_biased : List ℕ → ℕ → ℕ → ℕ
column_in_biased w eye x = x + 1024 - window_left_biased w eye

unfoldable pub row_in_biased : List ℕ → ℕ → ℕ
row_in_biased w y = y + 32768 - gy_biased w

-- i and j, "the offsets in it": x - (GX -/+ GP) and y - GY
abbrev pub ColumnIn : Type 0
ColumnIn =
    (w : List ℕ) (eye x : ℕ) → window_left w eye ≤ℤ pos x → pos (column_in_biased w eye x) ≡ pos x -ℤ window_left w eye

abbrev pub RowIn : Type 0
RowIn =
    (w : List ℕ) (y : ℕ) → GY w ≤ℤ pos y → pos (row_in_biased w y) ≡ pos y -ℤ GY w

-- whether a background world covers a pixel: shown to the eye, and its window holds the pixel
unfoldable pub world_covers_biased : List ℕ → ℕ → ℕ → ℕ → Bool
world_covers_biased w eye x y = world_shown_of w eye && (row_covered_biased w y && column_covered_biased w eye x)
