-- `capi_processor::execution::reset`: both records of the reset.
use mathlib.Core.Path.{refl}
use Rattle.capi_processor.proofs.execution.reset.Goals as goal

pub returns : goal.returns
returns c = rw (c.processor_out.ensures, c.reset-m.ensures) (refl, refl)
