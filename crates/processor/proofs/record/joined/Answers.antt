-- `processor::record::joined`: field by field.
use Rattle.processor.proofs.record.joined.Goals as goal

pub returns : goal.returns
returns c = rw c.hardware_in-hardware.ensures
