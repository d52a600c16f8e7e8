-- `drawing_display::column_table::load` meets its contract: the two tables are loaded, and no other byte changed. Assumes nothing.
use native.Mathlib.Omega.{arith}
use mathlib.Core.Path.{◌≡◌}
use Rattle.drawing_display.proofs.Loading.{all-loaded}
use Rattle.drawing_display.proofs.column_table.load.Goals as goal

pub returns : goal.returns
returns c =
    let all : c.loop-k.k ≡ 1024 = omega arith in
    all-loaded c.args.vram.now c.loop-k.place-items (omega arith) (omega arith) (rw all at c.loop-k.invariant)
