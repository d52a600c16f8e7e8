-- `capi_processor::execution::run`: misused, or what the call below gives.
use Rattle.capi_processor.proofs.Boundary.{run-misused, run-done}
use Rattle.capi_processor.proofs.execution.run.Goals as goal

pub returns-then-misused-ne0 : goal.returns-then-misused-ne0
returns-then-misused-ne0 c = run-misused _ _ _ c.misuse-misused.ensures _ c.if-misused-ne0.true

pub returns : goal.returns
returns c =
    let called = c in
    let tested = called in
    let given = called.processor_in-p.ensures in
    rw (c.processor_out.ensures, c.verdict_number.ensures)
    (run-done _ _ _ tested.misuse-misused.ensures _ given tested.if-misused-ne0.false _ _ called.run-s.ensures)
