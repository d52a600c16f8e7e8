-- `capi_processor::execution::step`: misused, or what the call below gives.
use mathlib.Core.Path.{◌∙◌}
use Rattle.capi_processor.proofs.Boundary.{step-misused, step-done}
use Rattle.capi_processor.proofs.Levels.{done-level}
use Rattle.capi_processor.proofs.execution.step.Goals as goal

pub returns-then-misused-ne0 : goal.returns-then-misused-ne0
returns-then-misused-ne0 c = step-misused _ _ _ c.misuse-misused.ensures c.if-misused-ne0.true

pub answered-reported-requires : goal.answered-reported-requires
answered-reported-requires c =
    let called = c in
    done-level _ _ _ called.step-s.ensures

pub returns : goal.returns
returns c =
    let reported = c in
    let called = reported in
    let tested = called in
    let given = called.processor_in-p.ensures in
    rw (c.processor_out.ensures, c.undefined_out.ensures)
    (reported.answered-reported.ensures _ _ _
    ∙ step-done _ _ _ tested.misuse-misused.ensures _ given tested.if-misused-ne0.false _ called.step-s.ensures)
