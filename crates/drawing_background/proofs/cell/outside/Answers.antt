-- `drawing_background::cell::outside` meets its contract. Assumes nothing.
use Rattle.std.proofs.Common.{sym, ◌∙◌}
use borrow.Author.Tests.{not-true, not-false}
use Rattle.drawing_background.proofs.cell.outside.Goals as goal

pub returns-then-not-maps : goal.returns-then-not-maps
returns-then-not-maps c = rw (sym c.requires.overplane ∙ not-true _ c.if-not-maps.true)

pub returns : goal.returns
returns c =
    rw (c.inside.ensures, sym c.requires.overplane ∙ not-false _ c.if-not-maps.false)
