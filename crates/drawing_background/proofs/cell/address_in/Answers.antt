-- `drawing_background::cell::address_in` meets its contract. Assumes nothing.
use Rattle.std.proofs.Common.{sym, ◌∙◌, arith}
use Rattle.drawing_background.proofs.Inside.{cell-overplane, cell-arranged}
use Rattle.drawing_background.proofs.cell.address_in.Goals as goal

pub returns-then-outside : goal.returns-then-outside
returns-then-outside c = (
  rw c.wide.ensures.0 (cell-overplane _ _ _ (sym c.outside.ensures ∙ c.if-outside.true)),
  omega arith,
)

pub returns : goal.returns
returns c = (
  rw (c.map_at-map.ensures.0, c.low_bits-row.ensures.0, c.low_bits-column.ensures.0)
      (cell-arranged _ _ _ c.requires
      (sym c.outside.ensures ∙ c.if-outside.false)),
  omega arith,
)
