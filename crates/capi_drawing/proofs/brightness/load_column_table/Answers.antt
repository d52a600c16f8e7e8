-- `capi_drawing::brightness::load_column_table` meets its contract: the call's verdict as a number. Assumes nothing.
use mathlib.Core.Path.{◌∙◌, ap}
use Rattle.refusal.specs.Number.{verdict_number}
use Rattle.capi_drawing.proofs.brightness.load_column_table.Goals as goal

pub returns : goal.returns
returns c = let done = c.load_column_table.ensures in
    record {
      refusal = c.verdict_number.ensures ∙ ap verdict_number done.verdict;
      memory = done.memory;
    }
