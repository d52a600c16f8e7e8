use Rattle.bus.proofs.memories.Memories.fetch.Goals as goal

pub returns : goal.returns
returns c = c.fetch.ensures _ _ _
