-- `saved_layout::bodies::put_memories` meets its contract. Assumes nothing.
use native.Mathlib.Omega.{arith}
use mathlib.Core.Path.{refl}
use Rattle.saved_layout.proofs.Written.{put_three}
use Rattle.saved_layout.proofs.bodies.put_memories.Goals as goal

pub returns : goal.returns
returns c = let a = c.args in
    put_three a.output.now a.wram.now a.vram.now a.pak.now _ _ _ a.at _ _ (omega arith) refl refl
    (c.put_bytes.ensures)
    (c.put_bytes-2.ensures)
    (c.put_bytes-3.ensures)
