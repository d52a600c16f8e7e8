-- `processor::acceptance::even_ok`: the tests in the definition's order.
use borrow.Author.Tests.{eq-eqb, ne_eqb}
use Rattle.processor.specs.Acceptance.{even_ok}
use Rattle.processor.proofs.acceptance.even_ok.Goals as goal

pub returns-then-pc-ne0 : goal.returns-then-pc-ne0
unfolding even_ok
returns-then-pc-ne0 c = simp (ne_eqb _ _ c.if-pc-ne0.true)

pub returns-then-sys-ne0 : goal.returns-then-sys-ne0
unfolding even_ok
returns-then-sys-ne0 c = simp (eq-eqb _ _ c.if-pc-ne0.false, ne_eqb _ _ c.if-sys-ne0.true)

pub returns-then-sys-ne0-2 : goal.returns-then-sys-ne0-2
unfolding even_ok
returns-then-sys-ne0-2 c = simp (eq-eqb _ _ c.if-pc-ne0.false, eq-eqb _ _ c.if-sys-ne0.false, ne_eqb _ _ c.if-sys-ne0-2.true)

pub returns : goal.returns
unfolding even_ok
returns c = rw (
  eq-eqb _ _ c.if-pc-ne0.false,
  eq-eqb _ _
      c.if-sys-ne0.false,
  eq-eqb _ _ c.if-sys-ne0-2.false,
)
