-- `drawing_bytes::background::covers` meets its contract: each test that fails makes it false. Assumes nothing.
use native.Mathlib.Omega.{arith}
use mathlib.Core.Path.{sym, ◌∙◌}
use Rattle.drawing_bytes.proofs.Covering.{world-hidden, world-below, world-above, world-right, world-there}
use Rattle.drawing_pixel.specs.inner.Halfwords.{halfwords_of}
use Rattle.drawing_bytes.proofs.background.covers.Goals as goal

pub returns-then-not-flag : goal.returns-then-not-flag
returns-then-not-flag c = world-hidden (halfwords_of c.args.w) c.args.eye
    c.args.x c.args.y (sym c.flag.ensures
    ∙ c.if-not-flag.true)

pub returns-then-y-top : goal.returns-then-y-top
returns-then-y-top c = world-below (halfwords_of c.args.w)
    c.args.eye
    c.args.x
    c.args.y (omega arith)

pub returns-then-top-rows : goal.returns-then-top-rows
returns-then-top-rows c = world-above (halfwords_of c.args.w)
    c.args.eye
    c.args.x
    c.args.y (omega arith)

pub returns-then-x-left : goal.returns-then-x-left
returns-then-x-left c = world-right (halfwords_of c.args.w) c.args.eye
    c.args.x
    c.args.y (omega arith)

pub returns : goal.returns
returns c =
    rw (c.columns.ensures.0, c.window_left-left.ensures.0)
    (world-there (halfwords_of c.args.w) c.args.eye
    c.args.x
    c.args.y (sym
    c.flag.ensures ∙ c.if-not-flag.false) (omega arith) (omega arith)
    (omega arith))
