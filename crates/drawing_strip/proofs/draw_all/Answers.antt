-- `drawing_strip::draw_all` meets its contract: strip after strip. Assumes nothing.
use native.Mathlib.Omega.{arith}
use mathlib.Core.Path.{◌≡◌, refl, ap, ◌∙◌}
use Rattle.drawing_pixel.specs.Strip.{strips_of, frame_of}
use Rattle.drawing_pixel.specs.Strip.{strip_of}
use Rattle.drawing_strip.proofs.Frames.{strips-more}
use Rattle.drawing_strip.proofs.draw_all.Goals as goal

pub loop-strip-init : goal.loop-strip-init
unfolding strips_of
loop-strip-init c = (omega arith, (refl, refl))

pub draw-requires : goal.draw-requires
draw-requires c = let pre = c.requires in
    record {
      vram_len = (c.loop-strip.invariant.1.0 ∙ pre.vram_len.0, (pre.vram_len.1, c.loop-strip-test.true));
      by_index = pre.by_index;
    }

pub overflow_add-strip : goal.overflow_add-strip
overflow_add-strip c = omega arith

pub loop-strip-smaller : goal.loop-strip-smaller
loop-strip-smaller c = omega arith

pub loop-strip-preserved : goal.loop-strip-preserved
loop-strip-preserved c = let a = c.args in
    let inv = c.loop-strip.invariant in (
      omega arith,
      (
        c.draw.auto.vram ∙ inv.1.0,
        c.draw.ensures
            ∙ (ap (λ v. strip_of v a.registers.now a.frame c.loop-strip.strip) inv.1.1
            ∙ strips-more a.vram.now a.registers.now a.frame c.loop-strip.strip),
      ),
    )

pub shape_of-vram : goal.shape_of-vram
shape_of-vram c = c.loop-strip.invariant.1.0

pub returns : goal.returns
unfolding frame_of
returns c = let e : c.loop-strip.strip ≡ 28 = omega arith in
    rw e at c.loop-strip.invariant.1.1
