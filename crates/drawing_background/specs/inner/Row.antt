-- Inner: a row of a background world while it is painted.
use Rattle.std.specs.Prelude.{◌≡◌, ℕ, ◌+◌, ◌-◌, ◌*◌, ◌/◌, ◌%◌, ◌^◌, ◌≤◌, min, Bool, List, ◌==◌}
use Rattle.word.specs.Choose.{pick}
use Rattle.word.specs.LittleEndian.{half_at}
use Rattle.bus.specs.Registers.{gplt_of}
use Rattle.drawing_pixel.specs.inner.BiasedFields.{biased_of}
use Rattle.word.specs.Bit.{is_set}
use Rattle.drawing_pixel.specs.Character.{two_bits_of, character_address_of}
use Rattle.drawing_pixel.specs.World.{bgm_of, scx_of, scy_of, over_of, base_of}
use Rattle.drawing_pixel.specs.Background.{parameter_of, bias_index_of}
use Rattle.drawing_pixel.specs.inner.BiasedSource.{affine_bias}
use Rattle.drawing_pixel.specs.inner.BiasedCell.{cell_address_biased}

-- how far row j is moved, plus 4,096: an H-bias world's by its parameter, any other not
unfoldable pub row_bias_of : List ℕ → List ℕ → ℕ → ℕ → ℕ
row_bias_of vram w eye j = pick (bgm_of w == 1) (biased_of 4096 (parameter_of vram w (bias_index_of eye j))) 4096

-- how a world's background is made of maps: OVER, its first map, the exponent of how many maps stand side by side
-- before they repeat, and the exponents of its width and height in cells
pub record MapsOf (w : List ℕ) (over : Bool) (base beside across down : ℕ) : Type 0 where
  pub overplane : over ≡ over_of w
  pub first : base ≡ base_of w
  pub repeats : beside ≡ min (scx_of w) (3 - scy_of w)
  pub width : across ≡ 6 + scx_of w
  pub height : down ≡ 6 + scy_of w

-- 512 times a source coordinate n steps along an affine row, M and D biased by 32,768: what `affine_floor_biased` divides
unfoldable pub affine_sum_of : ℕ → ℕ → ℕ → ℕ
affine_sum_of m d n = 64 * m + d * n + affine_bias - 32768 * n

-- the shades of a palette at their place in row r of a column, 16 bits for each value; nothing for value 0
unfoldable pub inks_of : ℕ → ℕ → ℕ
inks_of palette r =
    (two_bits_of palette 1 * 65536 + two_bits_of palette 2 * 4294967296 + two_bits_of palette 3 * 281474976710656)
    * 2 ^ (2 * r)

-- a cell is the one at cell column u and row v, with its palette and where its character begins
pub record CellAt (vram regs w : List ℕ) (u v cell palette character : ℕ) : Type 0 where
  pub same : cell ≡ half_at vram (cell_address_biased w u v)
  pub shades : palette ≡ gplt_of regs (cell / 16384)
  pub begins : character ≡ character_address_of (cell % 2048)
  pub low : character ≤ 131056

-- how a cell and its palette are painted over row r: the bits of a position that its flips turn, and its inks
pub record Inked (r cell palette across down inks : ℕ) : Type 0 where
  pub mirrored : across ≡ pick (is_set 13 cell) 7 0
  pub turned : down ≡ pick (is_set 12 cell) 7 0
  pub shades : inks ≡ inks_of palette r
