-- `drawing_pixel::paint::span` meets its contract: eight columns at once, else column after column, the pixels so far are taken through their
-- values. Assumes nothing.
use Prim.Native.Nat.{◌+◌, ◌-◌}
use native.Mathlib.Omega.{arith}
use Rattle.drawing_pixel.specs.Character.{shade_of, pixel_value_of}
use mathlib.Core.Path.{◌≡◌, ap}
use Rattle.drawing_pixel.proofs.Spans.{span_none, span_more, span-change}
use Rattle.drawing_pixel.proofs.paint.span.Goals as goal

pub overflow_add-run : goal.overflow_add-run
overflow_add-run c = omega arith

pub eight-requires : goal.eight-requires
eight-requires c = omega arith

pub returns-then-run : goal.returns-then-run
returns-then-run c =
    let a = c.args in
    span-change _ _ _ _ _ _ _
    (λ x v l h. let e : x - a.run.from ≡ a.column + (x - a.run.from) = omega arith in ap (λ n. shade_of a.palette
    (pixel_value_of a.cell a.row n) v) e)
    (rw c.if-run.true at c.eight.ensures)

pub loop-x-init : goal.loop-x-init
loop-x-init c = (omega arith, (omega arith, span_none _ _ _ _))

pub offset_bounds-buffer-x : goal.offset_bounds-buffer-x
offset_bounds-buffer-x c = omega arith

pub bounds-buffer-x : goal.bounds-buffer-x
bounds-buffer-x c = omega arith

pub overflow_sub-x : goal.overflow_sub-x
overflow_sub-x c = omega arith

pub overflow_add-column : goal.overflow_add-column
overflow_add-column c = omega arith

pub value-requires : goal.value-requires
value-requires c = omega arith

pub shaded-requires : goal.shaded-requires
shaded-requires c = omega arith

pub offset_bounds-buffer-x-in-loop-x : goal.offset_bounds-buffer-x-in-loop-x
offset_bounds-buffer-x-in-loop-x c = omega arith

pub bounds-buffer-x-in-loop-x : goal.bounds-buffer-x-in-loop-x
bounds-buffer-x-in-loop-x c = omega arith

pub overflow_add-x : goal.overflow_add-x
overflow_add-x c = omega arith

pub loop-x-smaller : goal.loop-x-smaller
loop-x-smaller c = omega arith

pub loop-x-preserved : goal.loop-x-preserved
loop-x-preserved c =
    let inv = c.loop-x.invariant in (
      omega arith,
      (
        omega arith,
        rw (c.shaded.ensures, c.value.ensures.0)
            (span_more _ _ _ _ _ _ inv.1.1 inv.0 (omega (arith, inv.1.1.size))),
      ),
    )

pub returns : goal.returns
returns c =
    let e : c.loop-x.x ≡ c.args.run.to = omega arith in
    rw e at c.loop-x.invariant.1.1
