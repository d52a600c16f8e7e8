-- `capi_saved::states::salvage_state`: what the call gives. Assumes nothing.
use mathlib.Core.Path.{ap, ◌∙◌}
use Rattle.capi_saved.specs.States.{salvaged_at}
use Rattle.capi_saved.proofs.states.salvage_state.Goals as goal

pub returns : goal.returns
returns c =
    let done = c.salvage_state.ensures in
    record {
      reported = c.salvaged.ensures ∙ ap salvaged_at done.reported;
      output = done.output;
    }
