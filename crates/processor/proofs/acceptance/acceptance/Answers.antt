-- `processor::acceptance::acceptance`: the bus's verdict, then the processor's test.
use Rattle.processor.specs.Acceptance.{acceptance_at}
use Rattle.processor.proofs.acceptance.acceptance.Goals as goal

pub returns-then-not-state_ok : goal.returns-then-not-state_ok
unfolding acceptance_at
returns-then-not-state_ok c = rw (
  ← c.verdict.ensures,
  c.in-Ok.is,
  ← c.state_ok.ensures,
  c.if-not-state_ok.true,
)

pub returns-in-Err : goal.returns-in-Err
unfolding acceptance_at
returns-in-Err c = rw (← c.verdict.ensures, c.in-Err.is)

pub returns-else-not-state_ok : goal.returns-else-not-state_ok
unfolding acceptance_at
returns-else-not-state_ok c = rw (
  ← c.verdict.ensures,
  c.in-Ok.is,
  ← c.state_ok.ensures,
  c.if-not-state_ok.false,
)
