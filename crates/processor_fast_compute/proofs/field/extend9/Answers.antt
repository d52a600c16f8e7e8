-- `processor_fast_compute::field::extend9`: bit 8 is the sign.
use Rattle.std.proofs.Common.{arith, rules}
use Rattle.processor_fast_compute.proofs.Extends.{extend-xor}
use Rattle.processor_fast_compute.proofs.field.extend9.Goals as goal

pub returns : goal.returns
returns c = extend-xor 8 c.args.x _ (omega arith) (omega arith) (omega arith) c.wrapping_sub_u32.ensures.value
