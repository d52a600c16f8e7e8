-- `saved_salvage::listed::added` meets its contract. Assumes nothing.
use native.Mathlib.Omega.{arith}
use Rattle.saved_salvage.specs.inner.Added.{added_of}
use Rattle.saved_salvage.proofs.listed.added.Goals as goal

pub returns-then-kept : goal.returns-then-kept
unfolding added_of
returns-then-kept c = (rw (c.if-kept.true), omega arith)

pub returns : goal.returns
unfolding added_of
returns c = (rw (c.if-kept.false), omega arith)
