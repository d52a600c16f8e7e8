-- `drawing_background::world::affine_row` meets its contract. Assumes nothing.
use Rattle.std.proofs.Common.{◌-◌}
use Rattle.drawing_pixel.proofs.Spans.{span-change}
use Rattle.drawing_background.proofs.Modes.{affine-pixel}
use Rattle.drawing_pixel.specs.inner.Halfwords.{halfwords_of}
use Rattle.drawing_background.proofs.world.affine_row.Goals as goal

pub returns : goal.returns
returns c = let a = c.args in
    let pre = c.requires in
    span-change _ _ _ _ _ _ _
    (λ x v l h. affine-pixel a.vram.now a.registers.now (halfwords_of a.w) a.eye a.offsets.i a.offsets.j (x - a.run.from) _ _ _ _ _ _
    pre.vram_len.1.1.1.1.1.1
    c.affine_parameter-mx.ensures.0
    c.affine_parameter-mp.ensures.0
    c.affine_parameter-my.ensures.0
    c.affine_parameter-dx.ensures.0
    c.affine_parameter-dy.ensures.0
    c.affine_shift.ensures.0 v)
    c.along_span.ensures
