-- How a pixel's value is picked from its row halfword, bit by bit (paper 01: "row r a halfword, column x bits 2x and
-- 2x + 1"; a flipped row is read from its other end). `bits-picked` is the one statement, over every row, column and
-- flip: what Character's arithmetic picks are these two bits. The code that picks, and so every painter, rests on it.
use Rattle.std.specs.Prelude.{ℕ, ◌+◌, ◌*◌, ◌/◌, ◌%◌, ◌≡◌, Bool}
use Rattle.word.specs.Bit.{bit_at}
use Rattle.drawing_pixel.specs.Character.{two_bits_of, flipped_of}

-- v is the value of a column of a row: with p the column, or 7 - column where flipped, its bit 0 is bit 2p of the row,
-- its bit 1 is bit 2p + 1, and it has no other
pub record Picked (row column : ℕ) (flip : Bool) (v : ℕ) : Type 0 where
  pub low : v % 2 ≡ bit_at (2 * flipped_of flip column) row
  pub high : v / 2 ≡ bit_at (2 * flipped_of flip column + 1) row

abbrev pub BitsPicked : Type 0
BitsPicked =
    (row column : ℕ) (flip : Bool) → Picked row column flip (two_bits_of row (flipped_of flip column))
