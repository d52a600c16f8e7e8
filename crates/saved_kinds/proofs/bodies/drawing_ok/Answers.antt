-- `saved_kinds::bodies::drawing_ok` meets its contract. Assumes nothing.
use mathlib.Core.Path.{ap, ◌∙◌}
use Rattle.bus.specs.Registers.{drawing_ok}
use Rattle.saved_kinds.specs.Kinds.{drawing_body_ok, drawing_from}
use Rattle.saved_kinds.proofs.bodies.drawing_ok.Goals as goal

pub returns : goal.returns
unfolding drawing_body_ok drawing_from
returns c = c.drawing_ok.ensures ∙ ap drawing_ok (c.take_halves.ensures)
