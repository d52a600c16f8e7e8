-- `processor::calls::verdict`: the record's own system registers, its lines and its timer.
use Rattle.processor.proofs.calls.verdict.Goals as goal

pub returns : goal.returns
returns c = rw (
  ← c.device_of-device.ensures,
  ← c.system-sys.ensures,
) c.acceptance.ensures
