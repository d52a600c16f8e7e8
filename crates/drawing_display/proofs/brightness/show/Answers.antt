-- `drawing_display::brightness::show` meets its contract: the strips so far stand in the buffer, and 28 are all of it. Assumes nothing.
use native.Mathlib.Omega.{arith}
use mathlib.Core.Path.{◌≡◌, refl}
use Rattle.drawing_display.proofs.Filling.{strips-more, all_shown}
use Rattle.drawing_display.proofs.brightness.show.Goals as goal

pub loop-strip-preserved : goal.loop-strip-preserved
loop-strip-preserved c = strips-more _ _ _ _ c.loop-strip.invariant c.show_strip.ensures

pub returns : goal.returns
returns c = let a = c.args in
    let e : c.loop-strip.strip ≡ 28 = omega arith in
    all_shown a.vram.now _ a.view a.durations _ _ _ refl refl refl c.levels-levels.ensures _ (rw e at c.loop-strip.invariant)
