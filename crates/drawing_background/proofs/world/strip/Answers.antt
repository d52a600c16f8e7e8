-- `drawing_background::world::strip` meets its contract: at once or row after row, the window's columns are painted
-- and all others kept. Assumes nothing.
use Rattle.std.proofs.Common.{◌≡◌, ◌+◌, ◌*◌, sym, ◌∙◌, arith, rules}
use Rattle.drawing_pixel.specs.World.{world_shown_of}
use Rattle.drawing_pixel.proofs.Spans.{rows_none, rows_more, rows_all, strip-kept}
use Rattle.drawing_pixel.proofs.Blocks.{block-strip}
use Rattle.drawing_pixel.proofs.Small.{background-small}
use Rattle.drawing_pixel.proofs.Windows.{background-hidden}
use Rattle.drawing_background.proofs.Clipping.{clipped-outside, clipped-empty}
use Rattle.drawing_pixel.specs.inner.Halfwords.{halfwords_of}
use Rattle.drawing_background.proofs.world.strip.Goals as goal

pub flag-requires : goal.flag-requires
flag-requires c = search rules

pub returns-then-not-flag : goal.returns-then-not-flag
unfolding world_shown_of
returns-then-not-flag c = let a = c.args in
    strip-kept _ _ (λ x r v u q. background-hidden a.vram.now a.registers.now (halfwords_of a.w) a.eye x
    (8 * a.strip + r) v (sym c.flag.ensures ∙ c.if-not-flag.true))

pub window_left-left-requires : goal.window_left-left-requires
window_left-left-requires c = search rules

pub clipped-from-requires : goal.clipped-from-requires
clipped-from-requires c = omega arith

pub columns-requires : goal.columns-requires
columns-requires c = search rules

pub overflow_add-left : goal.overflow_add-left
overflow_add-left c = omega arith

pub clipped-to-requires : goal.clipped-to-requires
clipped-to-requires c = omega arith

pub returns-then-to-from : goal.returns-then-to-from
returns-then-to-from c = let a = c.args in
    strip-kept _ _ (λ x r v u q. clipped-empty a.vram.now a.registers.now (halfwords_of a.w) a.eye x (8 * a.strip + r) v _ _ u
    (omega (arith, c.clipped-from.ensures)) (omega (arith, c.clipped-to.ensures)) c.if-to-from.true)

pub normal_block-requires : goal.normal_block-requires
unfolding world_shown_of
normal_block-requires c = record {
  buffer_len = omega arith;
  vram_len = (omega arith, (omega arith, (omega arith, (omega arith, c.if-w-eq0.true))));
  eye_value = (sym c.flag.ensures ∙ c.if-not-flag.false, (omega arith, omega arith));
}

pub returns-then-w-eq0 : goal.returns-then-w-eq0
returns-then-w-eq0 c =
    let a = c.args in
    block-strip _ _ _ _ _
    (λ x r v u. clipped-outside a.vram.now a.registers.now (halfwords_of a.w) a.eye x (8 * a.strip + r) v _ _ u
    (omega (arith, c.clipped-from.ensures)) (omega
    (arith, c.clipped-to.ensures)))
    c.normal_block.ensures

pub loop-r-init : goal.loop-r-init
loop-r-init c = (omega arith, rows_none _ _)

pub strip_row-requires : goal.strip_row-requires
unfolding world_shown_of
strip_row-requires c = record {
  buffer_len = omega (arith, c.loop-r.invariant.1.size);
  vram_len = (omega arith, (omega arith, (omega arith, (omega arith, omega arith))));
  eye_value = (sym c.flag.ensures ∙ c.if-not-flag.false, (omega arith, omega arith));
}

pub overflow_add-r : goal.overflow_add-r
overflow_add-r c = omega arith

pub loop-r-smaller : goal.loop-r-smaller
loop-r-smaller c = omega arith

pub loop-r-preserved : goal.loop-r-preserved
loop-r-preserved c = let a = c.args in (
  omega arith,
  rows_more _ _ _ _ _ _ _ c.loop-r-test.true
      (λ x v h. background-small a.vram.now a.registers.now (halfwords_of a.w) a.eye x _ v h)
      (λ x v u. clipped-outside a.vram.now a.registers.now (halfwords_of a.w) a.eye x _ v _ _ u
      (omega (arith, c.clipped-from.ensures))
      (omega (arith, c.clipped-to.ensures)))
      c.loop-r.invariant.1 c.strip_row.ensures,
)

pub returns : goal.returns
returns c = let e : c.loop-r.r ≡ 8 = omega arith in
    rows_all _ _ _ (rw e at c.loop-r.invariant.1)
