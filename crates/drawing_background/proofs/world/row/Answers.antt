-- `drawing_background::world::row` meets its contract. Assumes nothing.
use Rattle.std.proofs.Common.{◌-◌, arith}
use Rattle.drawing_pixel.proofs.Spans.{span-change}
use Rattle.drawing_background.proofs.Modes.{plain-pixel}
use Rattle.drawing_pixel.specs.inner.Halfwords.{halfwords_of}
use Rattle.drawing_background.proofs.world.row.Goals as goal

pub returns : goal.returns
returns c = let a = c.args in
    span-change _ _ _ _ _ _ _
    (λ x v l h. plain-pixel a.vram.now a.registers.now (halfwords_of a.w) a.eye a.offsets.i a.offsets.j (x - a.run.from) _ _ _
    c.if-w-ge2.false
    (omega arith)
    c.plain_left.ensures.0
    c.row_bias.ensures.0
    c.normal_y-sy.ensures.0 v)
    c.plain_span.ensures
