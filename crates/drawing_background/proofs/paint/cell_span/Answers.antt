-- `drawing_background::paint::cell_span` meets its contract: the columns share a cell, its character row and its palette. Assumes nothing.
use Rattle.std.proofs.Common.{◌-◌, arith}
use Rattle.drawing_pixel.proofs.Spans.{span-change}
use Rattle.drawing_background.proofs.Sources.{source-pixel-along}
use Rattle.drawing_background.proofs.paint.cell_span.Goals as goal

pub returns : goal.returns
returns c = let f = c.fetch-f.ensures in
    span-change _ _ _ _ _ _ _
    (λ x v l h. source-pixel-along _ _ _ _ _ _ _ _ f.0 f.1.0 f.1.1 (x - c.args.run.from) (omega arith) v)
    c.span.ensures
