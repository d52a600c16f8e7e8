-- `processor::acceptance::formats_ok`: the tests in the definition's order.
use borrow.Author.Tests.{eq-eqb, ne_eqb}
use Rattle.processor.specs.Acceptance.{formats_ok}
use Rattle.processor.proofs.acceptance.formats_ok.Goals as goal

pub returns-then-psw_bits-psw : goal.returns-then-psw_bits-psw
unfolding formats_ok
returns-then-psw_bits-psw c = rw (← c.psw_bits.ensures) (simp (ne_eqb _ _ c.if-psw_bits-psw.true))

pub returns-then-psw_bits-eipsw : goal.returns-then-psw_bits-eipsw
unfolding formats_ok
returns-then-psw_bits-eipsw c = rw (← c.psw_bits.ensures, ← c.psw_bits-2.ensures) (simp
    (eq-eqb _ _ c.if-psw_bits-psw.false, ne_eqb _ _ c.if-psw_bits-eipsw.true))

pub returns : goal.returns
unfolding formats_ok
returns c = rw (
  ← c.psw_bits.ensures,
  ← c.psw_bits-2.ensures,
  ← c.psw_bits-3.ensures,
) (simp (
  eq-eqb _ _
      c.if-psw_bits-psw.false,
  eq-eqb _ _ c.if-psw_bits-eipsw.false,
))
