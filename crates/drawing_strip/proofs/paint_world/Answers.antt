-- `drawing_strip::paint_world` meets its contract: a skipped world keeps the strip and the counter, an object world moves the counter. Assumes nothing.
use Prim.Native.Nat.{◌+◌, ◌*◌}
use native.Mathlib.Omega.{arith}
use mathlib.Core.Path.{◌≡◌, ◌∙◌}
use lib.ListN.{get_or}
use Rattle.drawing_pixel.specs.World.{world_of, bgm_of}
use Rattle.drawing_pixel.proofs.Spans.{strip-kept, strip-change}
use Rattle.drawing_strip.proofs.Worlds.{world-flags, flags-skipped, flags-shown, pixel-skipped, pixel-objects}
use Rattle.drawing_strip.proofs.Worlds.{pixel-background, counter-skipped, counter-objects, counter-background}
use Rattle.drawing_strip.proofs.Worlds.{counter-after-zero, counter-after-more}
use Rattle.drawing_strip.proofs.paint_world.Goals as goal

pub returns-then-flags-lt16384 : goal.returns-then-flags-lt16384
returns-then-flags-lt16384 c = let a = c.args in
    let f : c.wide-flags.result ≡ get_or (world_of a.vram.now a.n) 0 0 = c.wide-flags.ensures.0 ∙
    (c.half.ensures ∙ world-flags a.vram.now a.n) in
    let s = flags-skipped (world_of a.vram.now a.n) (omega arith) in record {
      value = (counter-skipped (world_of a.vram.now a.n) a.counter s, omega arith);
      strip = strip-kept _ _ (λ x r v u q. pixel-skipped a.vram.now a.registers.now (world_of a.vram.now a.n)
          a.counter a.eye x (8 * a.strip + r) v s);
    }

pub returns-then-counter-eq0 : goal.returns-then-counter-eq0
returns-then-counter-eq0 c = let a = c.args in
    let f : c.wide-flags.result ≡ get_or (world_of a.vram.now
    a.n) 0 0 = c.wide-flags.ensures.0 ∙
    (c.half.ensures ∙ world-flags a.vram.now
    a.n) in
    let s = flags-shown (world_of a.vram.now a.n) (omega arith) (omega arith) in
    let g : bgm_of (world_of a.vram.now a.n) ≡ 3 = omega arith in
    let p = strip-change _ _ _ _ (λ x r v u q. pixel-objects a.vram.now a.registers.now (world_of a.vram.now
    a.n) a.counter a.eye x (8 * a.strip + r) v s g) c.group.ensures in
    record { value = (counter-after-zero a.counter c.if-counter-eq0.true ∙ counter-objects (world_of a.vram.now a.n) a.counter s g, omega arith); strip = p }

pub returns-then-flags-eq3 : goal.returns-then-flags-eq3
returns-then-flags-eq3 c = let a = c.args in
    let f : c.wide-flags.result ≡ get_or (world_of a.vram.now
    a.n) 0 0 = c.wide-flags.ensures.0 ∙
    (c.half.ensures ∙ world-flags a.vram.now
    a.n) in
    let s = flags-shown (world_of a.vram.now a.n) (omega arith) (omega arith) in
    let g : bgm_of (world_of a.vram.now a.n) ≡ 3 = omega arith in
    let p = strip-change _ _ _ _ (λ x r v u q. pixel-objects a.vram.now a.registers.now (world_of a.vram.now
    a.n) a.counter a.eye x (8 * a.strip + r) v s g) c.group.ensures in
    record { value = (counter-after-more a.counter c.if-counter-eq0.false ∙ counter-objects (world_of a.vram.now a.n) a.counter s g, omega arith); strip = p }

pub returns : goal.returns
returns c = let a = c.args in
    let f : c.wide-flags.result ≡ get_or (world_of a.vram.now
    a.n) 0 0 = c.wide-flags.ensures.0 ∙
    (c.half.ensures ∙ world-flags a.vram.now
    a.n) in
    let s = flags-shown (world_of a.vram.now a.n) (omega arith) (omega arith) in
    let g : (bgm_of (world_of a.vram.now a.n) ≡ 3 → ⊥) = (λ e. c.if-flags-eq3.false (omega arith)) in record {
      value = (counter-background (world_of a.vram.now a.n) a.counter s g, omega arith);
      strip = strip-change _ _ _ _ (λ x r v u q. pixel-background a.vram.now a.registers.now (world_of a.vram.now
          a.n) a.counter a.eye x (8 * a.strip + r) v s g) (rw
          c.world_at-w.ensures at c.strip.ensures);
    }
