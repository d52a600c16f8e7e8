-- `saved_salvage::keep::keeps` meets its contract. Assumes nothing.
use borrow.Author.Tests.{eq-eqb, ne_eqb}
use Rattle.saved_salvage.proofs.keep.keeps.Goals as goal

pub returns-then-stored-sum : goal.returns-then-stored-sum
returns-then-stored-sum c = simp (eq-eqb _ _ (c.if-stored-sum.true))

pub returns : goal.returns
returns c = simp (ne_eqb _ _ (c.if-stored-sum.false))
