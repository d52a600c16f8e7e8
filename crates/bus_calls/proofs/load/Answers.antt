-- `bus_calls::load` meets its contract: an accepted verdict says the lengths. Assumes nothing.
use mathlib.Core.Path.{sym, ◌∙◌}
use Rattle.bus.proofs.Accepted.{accepted-lengths}
use Rattle.bus_calls.proofs.load.Goals as goal

pub read-value-requires : goal.read-value-requires
read-value-requires c =
    accepted-lengths _ _ _ _ _ (sym c.call_verdict.ensures ∙ c.in_ok-call_verdict.was)
