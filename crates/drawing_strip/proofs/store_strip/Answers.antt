-- `drawing_strip::store_strip` meets its contract: what was stored through the part is stored in the whole. Assumes nothing.
use native.Mathlib.Omega.{arith}
use Rattle.drawing_strip.proofs.Parts.{part-stored}
use Rattle.drawing_strip.proofs.store_strip.Goals as goal

pub returns : goal.returns
returns c = part-stored c.args.base
    c.args.vram.now (omega arith) _ _ _ _
    c.store_columns.ensures
