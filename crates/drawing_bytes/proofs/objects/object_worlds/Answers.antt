-- `drawing_bytes::objects::object_worlds` meets its contract: those found and those left are all. Assumes nothing.
use native.Mathlib.Omega.{arith}
use Prim.Native.Nat.{◌-◌, ◌/◌, ◌%◌}
use mathlib.Core.Path.{◌≡◌, ◌∙◌}
use lib.ListN.{get_or}
use borrow.Author.Tests.{eq-eqb, ne_eqb}
use Rattle.drawing_pixel.specs.World.{world_of}
use Rattle.drawing_strip.proofs.Worlds.{world-flags}
use Rattle.drawing_bytes.proofs.Worlds.{reached-step, reached-ended, reached-none}
use Rattle.drawing_bytes.proofs.objects.object_worlds.Goals as goal

pub returns-then-flags-eq1 : goal.returns-then-flags-eq1
returns-then-flags-eq1 c =
    let v = c.args.vram.now in
    let k = c.loop-k.k in
    let f : c.wide-flags.result ≡ get_or (world_of v (k - 1)) 0 0 = c.wide-flags.ensures.0 ∙ (c.half.ensures ∙ world-flags v (k - 1)) in
    let none = reached-ended v k c.loop-k-test.true (eq-eqb (get_or (world_of v (k - 1)) 0 0 / 64 % 2) 1 (omega arith)) in
    (omega arith, omega arith)

pub loop-k-preserved : goal.loop-k-preserved
loop-k-preserved c =
    let v = c.args.vram.now in
    let k = c.loop-k.k in
    let f : c.wide-flags.result ≡ get_or (world_of v (k - 1)) 0 0 = c.wide-flags.ensures.0 ∙
    (c.half.ensures ∙ world-flags v (k - 1)) in
    let step = reached-step v k c.loop-k-test.true (ne_eqb (get_or (world_of v
    (k - 1)) 0 0 / 64 % 2) 1 (λ e. c.if-flags-eq1.false (omega arith))) in
    let more = c.draws_objects-found.ensures.0 (world_of v (k - 1)) f in
    (omega (arith, c.draws_objects-found.ensures.1), omega arith)

pub returns : goal.returns
returns c =
    let none = reached-none c.args.vram.now c.loop-k.k (omega arith) in
    (omega arith, omega arith)
