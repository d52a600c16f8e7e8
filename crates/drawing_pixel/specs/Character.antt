-- Characters and cells (paper 01, "Drawing"): where a character's row stands, which two bits are a pixel, and what
-- a palette makes of them. A background's cell and an object's last halfword have one format:
-- 15-14 palette, 13 horizontal flip, 12 vertical flip, 10-0 character.
use Rattle.std.specs.Prelude.{ℕ, ◌+◌, ◌-◌, ◌*◌, ◌/◌, ◌%◌, ◌^◌, Bool, List, eqb}
use Rattle.word.specs.Choose.{pick}
use Rattle.word.specs.LittleEndian.{half_at}
use Rattle.word.specs.Bit.{is_set}

-- bits 2k and 2k + 1 of a number
unfoldable pub two_bits_of : ℕ → ℕ → ℕ
two_bits_of h k = h / 2 ^ (2 * k) % 4

-- where character c's 16 bytes begin
unfoldable pub character_address_of : ℕ → ℕ
character_address_of c = 0x6000 + c / 512 * 0x8000 + 16 * (c % 512)

-- a position of 0 to 7, mirrored where flipped
unfoldable pub flipped_of : Bool → ℕ → ℕ
flipped_of flip k = pick flip (7 - k) k

-- where the character row of a cell begins, for row r of the 8 by 8 square
unfoldable pub row_address_of : ℕ → ℕ → ℕ
row_address_of cell r = character_address_of (cell % 2048) + 2 * flipped_of (is_set 12 cell) r

-- how a pixel's value is picked from its row halfword
unfoldable pub pixel_value_of : ℕ → ℕ → ℕ → ℕ
pixel_value_of cell row column = two_bits_of row (flipped_of (is_set 13 cell) column)

-- a value over what was there: 0 is transparent, else bits 2v and 2v + 1 of the palette
unfoldable pub shade_of : ℕ → ℕ → ℕ → ℕ
shade_of palette value before = pick (eqb value 0) before (two_bits_of palette value)

-- the pixel at a column and row of a cell, over what was there; `palettes` gives the palette of a number
unfoldable pub cell_pixel_of : (vram : List ℕ) (palettes : ℕ → ℕ) (cell column r before : ℕ) → ℕ
cell_pixel_of vram palettes cell column r before =
    shade_of (palettes (cell / 16384)) (pixel_value_of cell (half_at vram (row_address_of cell r)) column) before
