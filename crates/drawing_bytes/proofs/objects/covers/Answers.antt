-- `drawing_bytes::objects::covers` meets its contract: each test that fails makes it false. Assumes nothing.
use native.Mathlib.Omega.{arith}
use mathlib.Core.Path.{sym, ◌∙◌}
use Rattle.drawing_bytes.proofs.Covering.{object-hidden, object-elsewhere, object-right, object-there}
use Rattle.drawing_bytes.proofs.objects.covers.Goals as goal

pub returns-then-not-flag : goal.returns-then-not-flag
returns-then-not-flag c = object-hidden c.args.o.now c.args.eye
    c.args.x c.args.y (sym c.flag.ensures
    ∙ c.if-not-flag.true)

pub returns-then-object_row-ge8 : goal.returns-then-object_row-ge8
returns-then-object_row-ge8 c = object-elsewhere c.args.o.now
    c.args.eye c.args.x
    c.args.y (omega arith)

pub returns-then-x-left : goal.returns-then-x-left
returns-then-x-left c = object-right c.args.o.now
    c.args.eye
    c.args.x
    c.args.y (omega arith)

pub returns : goal.returns
returns c =
    rw c.object_left-left.ensures.0
    (object-there c.args.o.now
    c.args.eye
    c.args.x
    c.args.y (sym
    c.flag.ensures ∙ c.if-not-flag.false) (omega arith) (omega arith))
