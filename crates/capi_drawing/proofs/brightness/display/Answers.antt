-- `capi_drawing::brightness::display` meets its contract: the call's verdict as a number. Assumes nothing.
use mathlib.Core.Path.{◌∙◌, ap}
use Rattle.refusal.specs.Number.{verdict_number}
use Rattle.capi_drawing.proofs.brightness.display.Goals as goal

pub returns : goal.returns
returns c = let done = c.display.ensures in
    record {
      refusal = c.verdict_number.ensures ∙ ap verdict_number done.verdict;
      room = done.output;
    }
