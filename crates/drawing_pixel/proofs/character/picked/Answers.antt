-- `drawing_pixel::character::picked` meets its contract: it is the one statement of RowBits, at the position that the flip gives. Assumes nothing.
use Rattle.drawing_pixel.proofs.RowBits.{bits-picked}
use Rattle.drawing_pixel.proofs.character.picked.Goals as goal

pub returns : goal.returns
returns c =
    let a = c.args in
    rw (c.pair.ensures.0, c.flipped.ensures.0) (bits-picked a.row a.column a.flip)
