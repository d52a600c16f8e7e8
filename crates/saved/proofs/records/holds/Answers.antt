-- `saved::records::holds` meets its contract. Assumes nothing.
use native.Mathlib.Omega.{arith}
use Rattle.saved.proofs.Holding.{holds-0, holds-1, holds-2, holds-3, holds-any}
use Rattle.saved.proofs.records.holds.Goals as goal

pub returns-then-lines-ne0 : goal.returns-then-lines-ne0
returns-then-lines-ne0 c = rw (c.in-One.is) (holds-0 _ (c.if-lines-ne0.true))

pub returns-then-lines-ne0-2 : goal.returns-then-lines-ne0-2
returns-then-lines-ne0-2 c = rw (c.in-One.is) (holds-1 _ (c.if-lines-ne0.false) (c.if-lines-ne0-2.true))

pub returns-then-lines-ne0-3 : goal.returns-then-lines-ne0-3
returns-then-lines-ne0-3 c = rw (c.in-One.is) (holds-2 _ (c.if-lines-ne0.false) (c.if-lines-ne0-2.false) (c.if-lines-ne0-3.true))

pub returns-in-Two : goal.returns-in-Two
returns-in-Two c = rw (c.in-Two.is) (holds-any _)

pub returns-else-lines-ne0-3 : goal.returns-else-lines-ne0-3
returns-else-lines-ne0-3 c = rw (c.in-One.is) (holds-3 _ (omega arith)
    (c.if-lines-ne0.false) (c.if-lines-ne0-2.false) (c.if-lines-ne0-3.false))
