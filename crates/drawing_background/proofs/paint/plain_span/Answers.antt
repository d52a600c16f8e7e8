-- `drawing_background::paint::plain_span` meets its contract: cell after cell, the columns so far show their source pixels. Assumes nothing.
use Rattle.std.proofs.Common.{◌≡◌, ◌+◌, ◌-◌, ap, arith, rules}
use Rattle.drawing_pixel.specs.inner.BiasedCell.{source_pixel_biased}
use Rattle.drawing_pixel.proofs.Spans.{span_none, span-join, span-change}
use Rattle.drawing_pixel.specs.inner.Halfwords.{halfwords_of}
use Rattle.drawing_background.proofs.paint.plain_span.Goals as goal

pub loop-x-init : goal.loop-x-init
loop-x-init c = (omega arith, (omega arith, span_none _ _ _ _))

pub overflow_sub-at : goal.overflow_sub-at
overflow_sub-at c = omega arith

pub overflow_add-at : goal.overflow_add-at
overflow_add-at c = omega arith

pub overflow_sub-at-in-loop-x : goal.overflow_sub-at-in-loop-x
overflow_sub-at-in-loop-x c = omega arith

pub overflow_add-x : goal.overflow_add-x
overflow_add-x c = omega arith

pub least-end-requires : goal.least-end-requires
least-end-requires c = search rules

pub cell_span-requires : goal.cell_span-requires
cell_span-requires c = omega (arith, c.loop-x.invariant.1.1.size)

pub loop-x-smaller : goal.loop-x-smaller
loop-x-smaller c = omega arith

pub loop-x-preserved : goal.loop-x-preserved
loop-x-preserved c = let a = c.args in
    let x = c.loop-x.x in
    let inv = c.loop-x.invariant in (
      omega arith,
      (
        omega arith,
        span-join _ _ x _ _ _ _ _ inv.0 (omega arith) inv.1.1
            (span-change _ _ _ _ _ _ _
            (λ y v l h.
            let e : a.source.x + (x - a.run.from) + (y - x) ≡ a.source.x + (y - a.run.from) = omega arith in
            ap (λ s. source_pixel_biased a.vram.now a.registers.now (halfwords_of a.w) s a.source.y v) e)
            c.cell_span.ensures),
      ),
    )

pub returns : goal.returns
returns c = let e : c.loop-x.x ≡ c.args.run.to = omega arith in
    rw e at c.loop-x.invariant.1.1
