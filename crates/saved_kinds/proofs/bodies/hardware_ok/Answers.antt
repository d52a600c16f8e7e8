-- `saved_kinds::bodies::hardware_ok` meets its contract. Assumes nothing.
use mathlib.Core.Path.{ap, ◌∙◌}
use Rattle.bus_timer.specs.Ports.{hardware_ok}
use Rattle.saved_kinds.specs.Kinds.{hardware_body_ok}
use Rattle.saved_kinds.proofs.bodies.hardware_ok.Goals as goal

pub returns : goal.returns
unfolding hardware_body_ok
returns c = c.is_ok.ensures ∙ ap hardware_ok (c.hardware.ensures)
