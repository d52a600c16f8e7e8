-- `capi_processor::record::processor_out`: field by field.
use Rattle.capi_processor.specs.Record.{processor_out}
use Rattle.capi_processor.proofs.record.processor_out.Goals as goal

pub returns : goal.returns
unfolding processor_out
returns c = rw (c.mode_number-mode.ensures, c.from-hardware.ensures)
