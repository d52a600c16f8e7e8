-- `capi_drawing::pictures::draw_strip` meets its contract: the call's verdict as a number. Assumes nothing.
use mathlib.Core.Path.{◌∙◌, ap}
use Rattle.refusal.specs.Number.{verdict_number}
use Rattle.capi_drawing.proofs.pictures.draw_strip.Goals as goal

pub returns : goal.returns
returns c = let drawn = c.draw_strip.ensures in
    record {
      refusal = c.verdict_number.ensures ∙ ap verdict_number drawn.verdict;
      memory = drawn.memory;
    }
