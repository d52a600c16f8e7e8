use Rattle.bus.proofs.memories.Memories.load.Goals as goal

pub returns-in-None : goal.returns-in-None
returns-in-None c = c.elsewhere.ensures _ _ _
