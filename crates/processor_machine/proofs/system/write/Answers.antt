-- `processor_machine::system::write`: 31 keeps the absolute value.
use Rattle.std.proofs.Common.{arith}
use Rattle.processor_arithmetic.proofs.Reading.{magnitude-absolute}
use Rattle.processor_machine.specs.System.{written_of}
use Rattle.processor_machine.proofs.system.write.Goals as goal

pub returns-in-31 : goal.returns-in-31
unfolding written_of
returns-in-31 c = rw (c.in-31.is, c.magnitude.ensures.0, magnitude-absolute c.args.v (omega arith))
