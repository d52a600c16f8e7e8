-- `processor_fast_compute::field::extend8`: bit 7 is the sign.
use Rattle.std.proofs.Common.{arith, rules}
use Rattle.processor_fast_compute.proofs.Extends.{extend-xor}
use Rattle.processor_fast_compute.proofs.field.extend8.Goals as goal

pub returns : goal.returns
returns c = extend-xor 7 c.args.x _ (omega arith) (omega arith) (omega arith) c.wrapping_sub_u32.ensures.value
