-- `drawing_pixel::character::row_address` meets its contract. Assumes nothing.
use native.Mathlib.Omega.{arith}
use Rattle.drawing_pixel.specs.Character.{row_address_of}
use Rattle.drawing_pixel.proofs.character.row_address.Goals as goal

pub returns : goal.returns
unfolding row_address_of
returns c = (rw (c.flipped.ensures.0, c.character_address.ensures.0), omega arith)
