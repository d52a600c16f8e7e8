-- Inner: the cell of a source pixel with a bias, and what a background world makes of a pixel. Each statement says that
-- a source x or y, kept plus 2 ^ 23, leads where paper 01's formula over the integers does; the proofs are in
-- proofs/CellFormulas.
use Rattle.std.specs.Prelude.{ℕ, ◌+◌, ◌*◌, ◌/◌, ◌%◌, ◌^◌, ◌≡◌, Bool, ◌&&◌, not, List, get_or, leb, ltb, ℤ, pos, ◌+ℤ◌}
use Rattle.std.specs.Int.Signed.{le_z, lt_z}
use Rattle.word.specs.Choose.{pick}
use Rattle.word.specs.Floors.{mod_z}
use Rattle.word.specs.LittleEndian.{half_at}
use Rattle.bus.specs.Registers.{gplt_of}
use Rattle.drawing_pixel.specs.Character.{cell_pixel_of}
use Rattle.drawing_pixel.specs.World.{scx_of, scy_of, over_of}
use Rattle.drawing_pixel.specs.Background.{map_table, map_number_of}
use Rattle.drawing_pixel.specs.inner.BiasedSource.{source_bias, source_x_biased, source_y_biased}
use Rattle.drawing_pixel.specs.inner.BiasedWindow.{column_in_biased, row_in_biased, world_covers_biased}

-- a cell column or row is 8 pixels, kept plus an eighth of the source's bias, 2 ^ 20
abbrev pub cell_bias : ℕ
cell_bias = 1048576

-- 01: "OVER clear: source wraps to that size". The wrapped pixel is the cell column's remainder, and the column in the
-- cell
abbrev pub SourceWraps : Type 0
SourceWraps =
    (w : List ℕ) (x : ℤ) (sx : ℕ) → pos sx ≡ x +ℤ pos source_bias
    → pos (8 * (sx / 8 % 2 ^ (6 + scx_of w)) + sx % 8) ≡ mod_z x (512 * 2 ^ scx_of w)

abbrev pub SourceWrapsDown : Type 0
SourceWrapsDown =
    (w : List ℕ) (y : ℤ) (sy : ℕ) → pos sy ≡ y +ℤ pos source_bias
    → pos (8 * (sy / 8 % 2 ^ (6 + scy_of w)) + sy % 8) ≡ mod_z y (512 * 2 ^ scy_of w)

-- the column or row in a cell, the overplane's too: x mod 8 and y mod 8, never negative
abbrev pub SourceInCell : Type 0
SourceInCell =
    (x : ℤ) (sx : ℕ) → pos sx ≡ x +ℤ pos source_bias → pos (sx % 8) ≡ mod_z x 8

-- whether a cell column and row lie in the background
unfoldable pub inside_biased : List ℕ → ℕ → ℕ → Bool
inside_biased w u v =
    (leb cell_bias u && ltb u (cell_bias + 2 ^ (6 + scx_of w)))
    && (leb cell_bias v && ltb v (cell_bias + 2 ^ (6 + scy_of w)))

-- 01: "2^SCX by 2^SCY maps of 512 pixels": inside is 0 ≤ x < 512 * 2^SCX and 0 ≤ y < 512 * 2^SCY
abbrev pub SourceInside : Type 0
SourceInside =
    (w : List ℕ) (x y : ℤ) (sx sy : ℕ) → pos sx ≡ x +ℤ pos source_bias → pos sy ≡ y +ℤ pos source_bias
    → inside_biased w (sx / 8) (sy / 8)
    ≡ (le_z (pos 0) x && lt_z x (pos (512 * 2 ^ scx_of w))) && (le_z (pos 0) y && lt_z y (pos (512 * 2 ^ scy_of w)))

-- the cell at a column and row that wrap to the background's size: 8,192 bytes a map, 64 cells a row
unfoldable pub map_cell_address_biased : List ℕ → ℕ → ℕ → ℕ
map_cell_address_biased w u v =
    map_table + 8192 * map_number_of w (u % 2 ^ (6 + scx_of w) / 64) (v % 2 ^ (6 + scy_of w) / 64)
    + 2 * (64 * (v % 64) + u % 64)

-- 01: "Map m is 8,192 bytes .., 64 cells a row": the cell of the pixel that the source wraps to
abbrev pub MapCell : Type 0
MapCell =
    (w : List ℕ) (x y : ℤ) (sx sy s t : ℕ) → pos sx ≡ x +ℤ pos source_bias → pos sy ≡ y +ℤ pos source_bias
    → pos s ≡ mod_z x (512 * 2 ^ scx_of w) → pos t ≡ mod_z y (512 * 2 ^ scy_of w)
    → map_cell_address_biased w (sx / 8) (sy / 8)
    ≡ map_table + 8192 * map_number_of w (s / 512) (t / 512) + 2 * (64 * (t % 512 / 8) + s % 512 / 8)

-- the address of the cell used at a cell column and row: OVER set, outside uses the overplane's
unfoldable pub cell_address_biased : List ℕ → ℕ → ℕ → ℕ
cell_address_biased w u v =
    pick (over_of w && not (inside_biased w u v)) (map_table + 2 * get_or w 10 0) (map_cell_address_biased w u v)

-- the address of the cell of a source pixel
unfoldable pub source_cell_address_biased : List ℕ → ℕ → ℕ → ℕ
source_cell_address_biased w sx sy = cell_address_biased w (sx / 8) (sy / 8)

-- a source pixel of the background, over what was there
unfoldable pub source_pixel_biased : (vram regs w : List ℕ) (sx sy before : ℕ) → ℕ
source_pixel_biased vram regs w sx sy before =
    cell_pixel_of vram (gplt_of regs) (half_at vram (source_cell_address_biased w sx sy)) (sx % 8) (sy % 8) before

-- what a background world makes of a pixel
unfoldable pub background_pixel_biased : (vram regs w : List ℕ) (eye x y before : ℕ) → ℕ
background_pixel_biased vram regs w eye x y before =
    pick (world_covers_biased w eye x y)
    (source_pixel_biased vram regs w
    (source_x_biased vram w eye (column_in_biased w eye x) (row_in_biased w y))
    (source_y_biased vram w eye (column_in_biased w eye x) (row_in_biased w y))
    before)
    before
