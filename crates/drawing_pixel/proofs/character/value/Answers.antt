-- `drawing_pixel::character::value` meets its contract: what is picked is the definition's value. Assumes nothing.
use Rattle.drawing_pixel.proofs.RowBits.{picked_value}
use Rattle.drawing_pixel.proofs.Pairs.{value-small}
use Rattle.drawing_pixel.proofs.character.value.Goals as goal

pub returns : goal.returns
returns c =
    let a = c.args in
    let e = picked_value a.cell c.picked.ensures in
    (e, rw e (value-small a.cell a.row a.column))
