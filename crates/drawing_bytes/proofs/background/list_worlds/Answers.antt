-- `drawing_bytes::background::list_worlds` meets its contract: what is left of the list, written into the buffer now, is the whole
-- list written into the buffer at first. Assumes nothing.
use native.Mathlib.Omega.{arith}
use Prim.Native.Nat.{◌-◌, ◌/◌, ◌%◌}
use mathlib.Core.Path.{◌≡◌, ◌∙◌}
use lib.ListN.{get_or}
use borrow.Author.Tests.{eq-eqb, ne_eqb}
use Rattle.drawing_pixel.specs.World.{world_of}
use Rattle.drawing_strip.proofs.Worlds.{world-flags}
use Rattle.drawing_bytes.proofs.Listings.{left-begun, left-more, left-done, left-size}
use Rattle.drawing_bytes.proofs.Worlds.{worlds-step, worlds-ended, worlds-none}
use Rattle.drawing_bytes.proofs.background.list_worlds.Goals as goal

pub loop-k-init : goal.loop-k-init
loop-k-init c = (omega arith, left-begun 0 _ _)

pub shape_of-output-then-wide-eq1 : goal.shape_of-output-then-wide-eq1
shape_of-output-then-wide-eq1 c = left-size _ _ _ _ _ _ c.loop-k.invariant.1

pub returns-then-wide-eq1 : goal.returns-then-wide-eq1
returns-then-wide-eq1 c =
    let a = c.args in
    let k = c.loop-k.k in
    let f : c.wide.result ≡ get_or (world_of a.vram.now (k - 1)) 0 0 = c.wide.ensures.0 ∙
    (c.half.ensures ∙ world-flags a.vram.now (k - 1)) in record {
      lists = left-done _ _ _ _ _ _ (worlds-ended a.vram.now a.eye a.x a.y k
          c.loop-k-test.true (eq-eqb (get_or (world_of a.vram.now (k - 1)) 0 0 / 64 % 2) 1
          (omega arith))) c.loop-k.invariant.1;
      upper_bound = omega arith;
    }

pub loop-k-preserved : goal.loop-k-preserved
loop-k-preserved c =
    let a = c.args in
    let k = c.loop-k.k in
    let f : c.wide.result ≡ get_or (world_of a.vram.now
    (k - 1)) 0 0 = c.wide.ensures.0 ∙
    (c.half.ensures ∙ world-flags a.vram.now (k - 1)) in (
      omega (arith, c.list_world-n.ensures.upper_bound),
      left-more _ _ _ _ _ _ _ _ _ _
          (worlds-step a.vram.now a.eye a.x a.y k
          c.loop-k-test.true (ne_eqb (get_or (world_of
          a.vram.now (k - 1)) 0 0 / 64 % 2) 1 (λ e. c.if-wide-eq1.false
          (omega arith))))
          c.loop-k.invariant.1 c.list_world-n.ensures.lists,
    )

pub shape_of-output : goal.shape_of-output
shape_of-output c = left-size _ _ _ _ _ _ c.loop-k.invariant.1

pub returns : goal.returns
returns c = record {
  lists = left-done _ _ _ _ _ _ (worlds-none c.args.vram.now
      c.args.eye c.args.x
      c.args.y c.loop-k.k (omega arith))
      c.loop-k.invariant.1;
  upper_bound = omega arith;
}
