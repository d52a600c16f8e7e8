-- `saved_salvage::compare::part_differs` meets its contract. Assumes nothing.
use native.Mathlib.Omega.{arith}
use Prim.Native.Nat.{◌+◌, ◌-◌}
use Rattle.saved_salvage.proofs.Differing.{part-is}
use Rattle.saved_salvage.proofs.compare.part_differs.Goals as goal

pub returns : goal.returns
returns c = let a = c.args in
    part-is a.at a.size (a.at + a.size - a.at) a.file.now a.output.now _ (omega arith) (c.same.ensures)
