-- The masks of a step at the C boundary (include/vb.h, `vb_undefined`; paper 02, W2), field by field.
use Rattle.processor_undefined.specs.declared.Undefined.{Undefined}
use Rattle.capi_processor.specs.declared.undefined.VbUndefined.{VbUndefined}

abbrev pub undefined_out : Undefined → VbUndefined
undefined_out u = record { first = u.first; second = u.second; load = u.load }
