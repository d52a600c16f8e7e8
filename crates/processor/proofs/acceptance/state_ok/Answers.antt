-- `processor::acceptance::state_ok`: the tests in the definition's order.
use borrow.Author.Tests.{eq-eqb, ne_eqb}
use Rattle.processor.specs.Acceptance.{state_ok}
use Rattle.processor.proofs.acceptance.state_ok.Goals as goal

pub returns-then-regs-ne0 : goal.returns-then-regs-ne0
unfolding state_ok
returns-then-regs-ne0 c = simp (ne_eqb _ _ c.if-regs-ne0.true)

pub returns-then-not-even_ok : goal.returns-then-not-even_ok
unfolding state_ok
returns-then-not-even_ok c = rw (← c.even_ok.ensures) (simp (eq-eqb _ _ c.if-regs-ne0.false, c.if-not-even_ok.true))

pub returns-then-not-formats_ok : goal.returns-then-not-formats_ok
unfolding state_ok
returns-then-not-formats_ok c = rw (← c.even_ok.ensures, ← c.formats_ok.ensures) (simp (
  eq-eqb _ _
      c.if-regs-ne0.false,
  c.if-not-even_ok.false,
  c.if-not-formats_ok.true,
))

pub returns : goal.returns
unfolding state_ok
returns c = rw (← c.even_ok.ensures, ← c.formats_ok.ensures) (simp (
  eq-eqb _ _ c.if-regs-ne0.false,
  c.if-not-even_ok.false,
  c.if-not-formats_ok.false,
))
