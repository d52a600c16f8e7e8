-- `processor_fast_compute::field::extend5`: bit 4 is the sign.
use Rattle.std.proofs.Common.{arith, rules}
use Rattle.processor_fast_compute.proofs.Extends.{extend-xor}
use Rattle.processor_fast_compute.proofs.field.extend5.Goals as goal

pub returns : goal.returns
returns c = extend-xor 4 c.args.x _ (omega arith) (omega arith) (omega arith) c.wrapping_sub_u32.ensures.value
