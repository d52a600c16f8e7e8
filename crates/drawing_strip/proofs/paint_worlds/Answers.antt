-- `drawing_strip::paint_worlds` meets its contract: what is left of the loop, applied to the strip now, is the whole loop applied to the strip at first.
-- Assumes nothing.
use Prim.Native.Nat.{◌-◌, ◌/◌, ◌%◌}
use native.Mathlib.Omega.{arith}
use borrow.Author.Rules.{rules}
use borrow.Author.Tests.{eq-eqb, ne_eqb}
use mathlib.Core.Path.{◌≡◌, ◌∙◌}
use lib.ListN.{get_or}
use Rattle.drawing_pixel.specs.World.{world_of}
use Rattle.drawing_strip.proofs.Worlds.{world-flags, worlds-begun, worlds-more, worlds-ended, worlds-done}
use Rattle.drawing_strip.proofs.paint_worlds.Goals as goal

pub loop-n-init : goal.loop-n-init
loop-n-init c = (omega arith, (omega arith, worlds-begun _ _ _ _ _))

pub overflow_sub-n : goal.overflow_sub-n
overflow_sub-n c = omega arith

pub overflow_mul-n : goal.overflow_mul-n
overflow_mul-n c = omega arith

pub overflow_add-n : goal.overflow_add-n
overflow_add-n c = omega arith

pub half-requires : goal.half-requires
half-requires c = search rules

pub wide-requires : goal.wide-requires
wide-requires c = search rules

pub returns-then-wide-eq1 : goal.returns-then-wide-eq1
returns-then-wide-eq1 c = let a = c.args in
    let n = c.loop-n.n in
    let f : c.wide.result ≡ get_or (world_of a.vram.now (n - 1)) 0 0 = c.wide.ensures.0 ∙
    (c.half.ensures ∙ world-flags a.vram.now (n - 1)) in
    worlds-ended _ _ _ _ _ _ _ _ c.loop-n-test.true (eq-eqb (get_or (world_of a.vram.now
    (n - 1)) 0 0 / 64 % 2) 1 (omega arith)) c.loop-n.invariant.1.1

pub overflow_sub-n-in-loop-n : goal.overflow_sub-n-in-loop-n
overflow_sub-n-in-loop-n c = omega arith

pub paint_world-counter-requires : goal.paint_world-counter-requires
paint_world-counter-requires c = record {
  buffer_len = omega (arith, c.loop-n.invariant.1.1.size);
  vram_len = (omega arith, (omega arith, (omega arith, omega arith)));
  by_index = c.requires.by_index;
}

pub overflow_sub-n-in-loop-n-2 : goal.overflow_sub-n-in-loop-n-2
overflow_sub-n-in-loop-n-2 c = omega arith

pub loop-n-smaller : goal.loop-n-smaller
loop-n-smaller c = omega arith

pub loop-n-preserved : goal.loop-n-preserved
loop-n-preserved c = let a = c.args in
    let n = c.loop-n.n in
    let f : c.wide.result ≡ get_or (world_of a.vram.now
    (n - 1)) 0 0 = c.wide.ensures.0 ∙ (c.half.ensures
    ∙ world-flags a.vram.now (n - 1)) in (
      omega arith,
      (
        c.paint_world-counter.ensures.value.1,
        worlds-more _ _ _ _ _ _ _ _ _ _ c.loop-n-test.true
            (ne_eqb (get_or (world_of a.vram.now (n - 1)) 0 0 / 64 % 2) 1 (λ e. c.if-wide-eq1.false (omega arith)))
            c.paint_world-counter.ensures.value.0 c.loop-n.invariant.1.1 c.paint_world-counter.ensures.strip,
      ),
    )

pub returns : goal.returns
returns c = worlds-done _ _ _ _ _ _ _ _ (omega arith) c.loop-n.invariant.1.1
