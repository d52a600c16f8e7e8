-- `drawing_background::affine::level_span` meets its contract: a step is one pixel to the right. Assumes nothing.
use Rattle.std.proofs.Common.{◌+◌, ◌-◌, ◌<◌, ◌∙◌, arith}
use Rattle.drawing_pixel.proofs.Spans.{span-change}
use Rattle.drawing_background.proofs.Sources.{level-low, level-pixel, level-steps}
use Rattle.drawing_pixel.specs.inner.Halfwords.{halfwords_of}
use Rattle.drawing_background.proofs.affine.level_span.Goals as goal

pub plain_span-requires : goal.plain_span-requires
plain_span-requires c =
    let pre = c.requires in
    let low : c.affine_floor-sx.result < 33554432 = rw c.affine_floor-sx.ensures
    (level-low _ _ pre.vram_len.1.1.1.1.0 (omega arith)) in
    record { buffer_len = omega arith; vram_len = omega (arith, low) }

pub returns : goal.returns
returns c =
    let a = c.args in
    span-change _ _ _ _ _ _ _
    (λ x v l h. level-pixel a.vram.now a.registers.now (halfwords_of a.w) a.course.mx a.course.my a.course.n (x - a.run.from) _ _ v
    c.affine_floor-sx.ensures
    c.affine_floor-sy.ensures
    ∙ level-steps a.vram.now a.registers.now (halfwords_of a.w) a.course.mx a.course.my a.course.dx
    a.course.dy (a.course.n + (x - a.run.from)) v
    c.requires.vram_len.1.1.1.1.1.1.0 c.requires.vram_len.1.1.1.1.1.1.1.0)
    c.plain_span.ensures
