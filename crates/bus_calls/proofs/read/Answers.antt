-- `bus_calls::read` meets its contract: the fast path, or an access that borrows the device registers. Assumes nothing.
use Rattle.bus_calls.proofs.Lent.{load-lent}
use Rattle.bus_calls.proofs.read.Goals as goal

pub returns-in-None : goal.returns-in-None
returns-in-None c = load-lent _ _ _ _ c.device_of-lent.ensures _ (c.elsewhere.ensures _ _ _)
