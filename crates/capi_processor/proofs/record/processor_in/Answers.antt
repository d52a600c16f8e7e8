-- `capi_processor::record::processor_in`: field by field.
use Rattle.capi_processor.specs.Record.{processor_in}
use Rattle.capi_processor.proofs.record.processor_in.Goals as goal

pub returns : goal.returns
unfolding processor_in
returns c = rw (c.mode_of-mode.ensures, c.from-hardware.ensures)
