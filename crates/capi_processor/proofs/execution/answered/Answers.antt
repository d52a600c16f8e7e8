-- `capi_processor::execution::answered`: by the answer; a level below 5 makes no sum that overflows.
use native.Mathlib.Omega.{arith}
use Rattle.capi_processor.proofs.Levels.{interrupted-level}
use Rattle.capi_processor.proofs.execution.answered.Goals as goal

pub overflow_mul-level : goal.overflow_mul-level
overflow_mul-level c =
    let below = interrupted-level _ _ c.in-Interrupted.is c.requires in
    omega (arith, below)

pub overflow_add-level : goal.overflow_add-level
overflow_add-level c =
    let below = interrupted-level _ _ c.in-Interrupted.is c.requires in
    omega (arith, below)

pub returns-in-Ended : goal.returns-in-Ended
returns-in-Ended c =
    λ u p m. rw (c.numbers.ensures.0, c.numbers.ensures.1, c.numbers.ensures.2)
    (rw c.in-Ended.is)

pub returns-in-Trapped : goal.returns-in-Trapped
returns-in-Trapped c =
    λ u p m. rw (c.numbers-in-Trapped.ensures.0, c.numbers-in-Trapped.ensures.1, c.numbers-in-Trapped.ensures.2)
    (rw (c.code.ensures.0, c.in-Trapped.is))

pub returns-in-TurnedFatal : goal.returns-in-TurnedFatal
returns-in-TurnedFatal c =
    λ u p m. rw (c.numbers-in-TurnedFatal.ensures.0, c.numbers-in-TurnedFatal.ensures.1, c.numbers-in-TurnedFatal.ensures.2)
    (rw (c.code-in-TurnedFatal.ensures.0, c.in-TurnedFatal.is))

pub returns-in-WasHalted : goal.returns-in-WasHalted
returns-in-WasHalted c =
    λ u p m. rw (c.numbers-in-WasHalted.ensures.0, c.numbers-in-WasHalted.ensures.1, c.numbers-in-WasHalted.ensures.2)
    (rw c.in-WasHalted.is)

pub returns-in-WasFatal : goal.returns-in-WasFatal
returns-in-WasFatal c =
    λ u p m. rw (c.numbers-in-WasFatal.ensures.0, c.numbers-in-WasFatal.ensures.1, c.numbers-in-WasFatal.ensures.2)
    (rw c.in-WasFatal.is)

pub returns-in-Interrupted : goal.returns-in-Interrupted
returns-in-Interrupted c =
    λ u p m. rw (c.numbers-in-Interrupted.ensures.0, c.numbers-in-Interrupted.ensures.1, c.numbers-in-Interrupted.ensures.2)
    (rw c.in-Interrupted.is)

pub returns-in-Refused : goal.returns-in-Refused
returns-in-Refused c =
    λ u p m. rw (c.numbers-in-Refused.ensures.0, c.numbers-in-Refused.ensures.1, c.numbers-in-Refused.ensures.2)
    (rw (c.from.ensures, c.in-Refused.is))
