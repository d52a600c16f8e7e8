-- `drawing_background::affine::affine_span` meets its contract: column after column, the source moves one step along the row's direction,
-- and the cell that was read last is the one there. Assumes nothing.
use Rattle.std.proofs.Common.{◌≡◌, ◌+◌, ◌-◌, ◌/◌, ◌<◌, get_or, ◌∙◌, arith}
use Rattle.drawing_pixel.specs.inner.BiasedCell.{source_pixel_biased}
use Rattle.drawing_pixel.specs.inner.BiasedSource.{affine_floor_biased}
use Rattle.drawing_pixel.specs.inner.Buffer.{repainted_of}
use Rattle.drawing_pixel.proofs.Spans.{span_none, span_more}
use Rattle.drawing_background.proofs.Sources.{source-repainted, sum-least, sum-most, sum-on, floor-sum}
use Rattle.drawing_pixel.specs.inner.Halfwords.{halfwords_of}
use Rattle.drawing_background.proofs.affine.affine_span.Goals as goal

pub inks-mask-requires : goal.inks-mask-requires
inks-mask-requires c = omega arith

pub maps_of-maps-requires : goal.maps_of-maps-requires
maps_of-maps-requires c = omega arith

pub read-last-requires : goal.read-last-requires
read-last-requires c = let pre = c.requires in (pre.vram_len.0, (pre.vram_len.1.1.1.0, c.maps_of-maps.ensures))

pub affine_sum-px-requires : goal.affine_sum-px-requires
affine_sum-px-requires c = let pre = c.requires in (
  pre.vram_len.1.1.1.1.0,
  (pre.vram_len.1.1.1.1.1.1.0, omega (arith, pre.vram_len.1.1.1.1.1.1.1.1)),
)

pub affine_sum-py-requires : goal.affine_sum-py-requires
affine_sum-py-requires c = let pre = c.requires in (
  pre.vram_len.1.1.1.1.1.0,
  (pre.vram_len.1.1.1.1.1.1.1.0, omega (arith, pre.vram_len.1.1.1.1.1.1.1.1)),
)

pub loop-x-init : goal.loop-x-init
loop-x-init c =
    let a = c.args in
    let e : a.course.n + (a.run.from - a.run.from) ≡ a.course.n = omega arith in (
      omega arith,
      (
        omega arith,
        (
          c.read-last.ensures.1.1,
          (
            span_none _ _ _ _,
            (
              rw e
                  c.affine_sum-px.ensures,
              rw e c.affine_sum-py.ensures,
            ),
          ),
        ),
      ),
    )

pub held-last-requires : goal.held-last-requires
held-last-requires c = let pre = c.requires in (
  pre.vram_len.0,
  (
    pre.vram_len.1.1.1.0,
    (
      c.maps_of-maps.ensures,
      c.loop-x.invariant.1.1.0,
    ),
  ),
)

pub offset_bounds-buffer-x : goal.offset_bounds-buffer-x
offset_bounds-buffer-x c = omega (arith, c.requires.vram_len.1.1.0, c.loop-x-test.true)

pub bounds-buffer-x : goal.bounds-buffer-x
bounds-buffer-x c = omega (
  arith,
  c.requires.buffer_len,
  c.requires.vram_len.1.1.0,
  c.loop-x-test.true,
  c.loop-x.invariant.1.1.1.0.size,
)

pub cell_shaded-requires : goal.cell_shaded-requires
cell_shaded-requires c =
    let pre = c.requires in
    let h = c.held-last.ensures.1.1 in
    (pre.vram_len.0, (pre.vram_len.1.1.1.0, (c.inks-mask.ensures, (h.0.low, h.1))))

pub offset_bounds-buffer-x-in-loop-x : goal.offset_bounds-buffer-x-in-loop-x
offset_bounds-buffer-x-in-loop-x c = omega (arith, c.requires.vram_len.1.1.0)

pub bounds-buffer-x-in-loop-x : goal.bounds-buffer-x-in-loop-x
bounds-buffer-x-in-loop-x c = omega (arith, c.requires.vram_len.1.1.0)

pub affine_on-px-requires : goal.affine_on-px-requires
affine_on-px-requires c =
    let pre = c.requires in
    let a = c.args in
    let l = c.loop-x in
    let k = a.course.n + (l.x - a.run.from) in
    let h : k < 65536 = omega (arith, pre.vram_len.1.1.1.1.1.1.1.1, pre.vram_len.1.1.0, l.invariant.1.0) in
    rw l.invariant.1.1.1.1.0 (
      sum-least a.course.mx a.course.dx k h,
      (
        sum-most a.course.mx
            a.course.dx k pre.vram_len.1.1.1.1.0 pre.vram_len.1.1.1.1.1.1.0 h,
        pre.vram_len.1.1.1.1.1.1.0,
      ),
    )

pub affine_on-py-requires : goal.affine_on-py-requires
affine_on-py-requires c =
    let pre = c.requires in
    let a = c.args in
    let l = c.loop-x in
    let k = a.course.n + (l.x - a.run.from) in
    let h : k < 65536 = omega (arith, pre.vram_len.1.1.1.1.1.1.1.1, pre.vram_len.1.1.0, l.invariant.1.0) in
    rw l.invariant.1.1.1.1.1 (
      sum-least a.course.my a.course.dy k h,
      (
        sum-most a.course.my
            a.course.dy k pre.vram_len.1.1.1.1.1.0
            pre.vram_len.1.1.1.1.1.1.1.0 h,
        pre.vram_len.1.1.1.1.1.1.1.0,
      ),
    )

pub overflow_add-x : goal.overflow_add-x
overflow_add-x c = omega arith

pub loop-x-smaller : goal.loop-x-smaller
loop-x-smaller c = omega arith

pub loop-x-preserved : goal.loop-x-preserved
loop-x-preserved c =
    let pre = c.requires in
    let a = c.args in
    let h = c.held-last.ensures in
    let l = c.loop-x in
    let inv = l.invariant in
    let k = a.course.n + (l.x - a.run.from) in
    let s : k < 65535 = omega (arith, pre.vram_len.1.1.1.1.1.1.1.1, pre.vram_len.1.1.0, inv.1.0) in
    let next : a.course.n + (l.x + 1 - a.run.from) ≡ k + 1 = omega (arith, inv.0) in
    let fx : l.px / 512 ≡ affine_floor_biased a.course.mx a.course.dx k = floor-sum a.course.mx a.course.dx k l.px inv.1.1.1.1.0 in
    let fy : l.py / 512 ≡ affine_floor_biased a.course.my a.course.dy k = floor-sum a.course.my a.course.dy k l.py inv.1.1.1.1.1 in
    let e : c.cell_shaded.result ≡ repainted_of a.run.row (source_pixel_biased a.vram.now
    a.registers.now (halfwords_of a.w) (l.px / 512) (l.py / 512)) (get_or l.buffer l.x 0) =
    c.cell_shaded.ensures ∙ source-repainted a.vram.now a.registers.now (halfwords_of a.w)
    a.run.row _ _ _ _ _ _ _ _ h.0 h.1.0 h.1.1.0
    in (
      omega arith,
      (
        omega arith,
        (
          h.1.1,
          (
            rw (e, fx, fy) (span_more _ _ _ _ _ _ inv.1.1.1.0 inv.0 (omega (arith, inv.1.1.1.0.size, pre.buffer_len, pre.vram_len.1.1.0))),
            (
              rw next (sum-on a.course.mx a.course.dx k l.px _ s inv.1.1.1.1.0 c.affine_on-px.ensures),
              rw next (sum-on a.course.my a.course.dy k l.py _ s inv.1.1.1.1.1 c.affine_on-py.ensures),
            ),
          ),
        ),
      ),
    )

pub returns : goal.returns
returns c =
    let e : c.loop-x.x ≡ c.args.run.to = omega arith in
    rw e at c.loop-x.invariant.1.1.1.0
