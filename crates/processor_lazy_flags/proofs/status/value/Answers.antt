-- `processor_lazy_flags::status::value`: by the two bits.
use Rattle.std.proofs.Common.{◌%◌, arith}
use lib.Bits.{xor_lt}
use Rattle.processor_lazy_flags.proofs.Sums.{value-flags}
use Rattle.processor_lazy_flags.proofs.status.value.Goals as goal

pub returns : goal.returns
returns c = value-flags (c.args.psw % 4) (omega arith) c.requires
