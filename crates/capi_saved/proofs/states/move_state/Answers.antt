-- `capi_saved::states::move_state`: what the call gives. Assumes nothing.
use mathlib.Core.Path.{ap, ◌∙◌}
use Rattle.refusal.specs.Number.{verdict_number}
use Rattle.capi_saved.proofs.states.move_state.Goals as goal

pub returns : goal.returns
returns c =
    let done = c.move_state.ensures in
    record {
      refusal = c.verdict_number.ensures ∙ ap verdict_number done.verdict;
      output = done.output;
    }
