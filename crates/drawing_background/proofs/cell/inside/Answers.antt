-- `drawing_background::cell::inside` meets its contract: each test that fails makes it false. Assumes nothing.
use Rattle.drawing_background.proofs.Inside.{outside-left, outside-right, outside_above, inside-down}
use Rattle.drawing_background.proofs.cell.inside.Goals as goal

pub returns-then-u-lt-CELL_BIAS : goal.returns-then-u-lt-CELL_BIAS
returns-then-u-lt-CELL_BIAS c = outside-left _ _ _ c.if-u-lt-CELL_BIAS.true

pub returns-then-cells-u : goal.returns-then-cells-u
returns-then-cells-u c = outside-right _ _ _ _ (rw c.requires.width at c.cells.ensures.0) c.if-cells-u.true

pub returns-then-v-lt-CELL_BIAS : goal.returns-then-v-lt-CELL_BIAS
returns-then-v-lt-CELL_BIAS c = outside_above _ _ _ c.if-v-lt-CELL_BIAS.true

pub returns : goal.returns
returns c =
    let maps = c.requires in
    inside-down _ _ _ _ _ (rw maps.width at c.cells.ensures.0)
    (rw maps.height at c.cells-2.ensures.0) c.if-u-lt-CELL_BIAS.false
    c.if-cells-u.false c.if-v-lt-CELL_BIAS.false
