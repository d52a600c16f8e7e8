-- `bus::load::load` meets its contract: the fast path, or what stands elsewhere. Assumes nothing.
use Rattle.bus.proofs.load.load.Goals as goal

pub returns-in-None : goal.returns-in-None
returns-in-None c = c.elsewhere.ensures _ _ _
