-- `drawing_strip::draw` meets its contract: the columns of both eyes are worked out before either is stored. Assumes nothing.
use native.Mathlib.Omega.{arith}
use Rattle.bus.specs.Registers.{bkcol_of}
use Rattle.drawing_strip.proofs.Drawn.{worked, drawn}
use Rattle.drawing_strip.proofs.draw.Goals as goal

pub overflow_mul-empty : goal.overflow_mul-empty
unfolding bkcol_of
overflow_mul-empty c = omega arith

pub returns : goal.returns
returns c = let a = c.args in
    let pre = c.requires in
    drawn a.registers.now _ _ a.vram.now _ _ a.frame a.strip (omega arith) (omega arith)
    (worked a.vram.now a.registers.now 0 a.strip _ pre.by_index.1
    c.paint_worlds.ensures)
    (worked a.vram.now a.registers.now 1 a.strip _ pre.by_index.1
    c.paint_worlds-2.ensures)
    c.store_strip.ensures c.store_strip-2.ensures
