-- `processor_float::flag::underflow`: one test.
use Rattle.processor_float.specs.Flag.{underflow_of}
use Rattle.std.proofs.Common.{rules}
use Rattle.processor_float.proofs.flag.underflow.Goals as goal

pub returns-then-underflowed : goal.returns-then-underflowed
unfolding underflow_of
returns-then-underflowed c = rw c.if-underflowed.true

pub returns : goal.returns
unfolding underflow_of
returns c = rw c.if-underflowed.false
