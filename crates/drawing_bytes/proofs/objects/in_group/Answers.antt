-- `drawing_bytes::objects::in_group` meets its contract. Assumes nothing.
use Rattle.bus.specs.Registers.{spt_of}
use Rattle.drawing_laws.specs.Covers.{in_group_of}
use Rattle.drawing_bytes.proofs.objects.in_group.Goals as goal

pub returns : goal.returns
unfolding in_group_of spt_of
returns c = rw (c.group_count.ensures.0, c.wide.ensures.0)
