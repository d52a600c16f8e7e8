-- `saved_salvage::compare::entry_differs` meets its contract. Assumes nothing.
use Rattle.saved_salvage.specs.Differ.{entry_differs}
use Rattle.saved_salvage.proofs.compare.entry_differs.Goals as goal

pub returns-then-found : goal.returns-then-found
returns-then-found c = rw c.if-found.true

pub returns-then-kept : goal.returns-then-kept
unfolding entry_differs
returns-then-kept c = rw (c.if-found.false, c.if-kept.true) c.part_differs.ensures

pub returns : goal.returns
unfolding entry_differs
returns c = rw (c.if-found.false, c.if-kept.false) c.part_differs-2.ensures
