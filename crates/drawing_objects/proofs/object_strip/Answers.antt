-- `drawing_objects::object_strip` meets its contract: row after row, the square's columns are painted and all others kept. Assumes nothing.
use Prim.Native.Nat.{◌+◌, ◌*◌}
use native.Mathlib.Omega.{arith}
use borrow.Author.Rules.{rules}
use mathlib.Core.Path.{◌≡◌, sym, ◌∙◌}
use Rattle.drawing_pixel.proofs.Spans.{rows_none, rows_more, rows_all, strip-kept}
use Rattle.drawing_pixel.proofs.Small.{object-small}
use Rattle.drawing_pixel.proofs.Windows.{object-hidden}
use Rattle.drawing_objects.proofs.Squares.{square-outside, square-empty}
use Rattle.drawing_objects.proofs.object_strip.Goals as goal

pub shown-requires : goal.shown-requires
shown-requires c = search rules

pub returns-then-not-shown : goal.returns-then-not-shown
returns-then-not-shown c = let a = c.args in
    strip-kept _ _ (λ x r v u q. object-hidden a.vram.now a.registers.now a.o.now a.eye x
    (8 * a.strip + r) v (sym c.shown.ensures ∙ c.if-not-shown.true))

pub object_left-left-requires : goal.object_left-left-requires
object_left-left-requires c = search rules

pub clipped-from-requires : goal.clipped-from-requires
clipped-from-requires c = omega arith

pub overflow_add-left : goal.overflow_add-left
overflow_add-left c = omega arith

pub clipped-to-requires : goal.clipped-to-requires
clipped-to-requires c = omega arith

pub returns-then-to-from : goal.returns-then-to-from
returns-then-to-from c = let a = c.args in
    strip-kept _ _ (λ x r v u q. square-empty a.vram.now a.registers.now a.o.now a.eye x (8 * a.strip + r) v _ _ u
    (omega (arith, c.clipped-from.ensures)) (omega (arith, c.clipped-to.ensures)) c.if-to-from.true)

pub loop-r-init : goal.loop-r-init
loop-r-init c = (omega arith, rows_none _ _)

pub object_span-requires : goal.object_span-requires
object_span-requires c = record {
  buffer_len = omega (arith, c.loop-r.invariant.1.size);
  vram_len = (omega arith, (omega arith, (omega arith, (omega arith, omega arith))));
  eye_value = (sym c.shown.ensures ∙ c.if-not-shown.false, (omega arith, omega arith));
}

pub overflow_add-r : goal.overflow_add-r
overflow_add-r c = omega arith

pub loop-r-smaller : goal.loop-r-smaller
loop-r-smaller c = omega arith

pub loop-r-preserved : goal.loop-r-preserved
loop-r-preserved c = let a = c.args in (
  omega arith,
  rows_more _ _ _ _ _ _ _ c.loop-r-test.true
      (λ x v h. object-small a.vram.now a.registers.now a.o.now a.eye x _ v h)
      (λ x v u. square-outside a.vram.now a.registers.now a.o.now a.eye x _ v _ _ u
      (omega (arith, c.clipped-from.ensures)) (omega
      (arith, c.clipped-to.ensures)))
      c.loop-r.invariant.1 c.object_span.ensures,
)

pub returns : goal.returns
returns c = let e : c.loop-r.r ≡ 8 = omega arith in
    rows_all _ _ _ (rw e at c.loop-r.invariant.1)
