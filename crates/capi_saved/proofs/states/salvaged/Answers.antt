-- `capi_saved::states::salvaged` meets its contract. Assumes nothing.
use Rattle.capi_saved.specs.States.{salvaged_at}
use Rattle.capi_saved.proofs.states.salvaged.Goals as goal

pub returns-then-report : goal.returns-then-report
unfolding salvaged_at
returns-then-report c = rw (c.if-report.true, c.verdict_number-refusal.ensures)

pub returns : goal.returns
unfolding salvaged_at
returns c = rw (c.if-report.false, c.verdict_number-refusal.ensures)
