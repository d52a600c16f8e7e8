-- `processor_arithmetic::shift::right_out`: by `right-out`.
use Rattle.std.proofs.Common.{arith, rules}
use Rattle.processor_arithmetic.proofs.Floor.{right-out}
use Rattle.processor_arithmetic.proofs.shift.right_out.Goals as goal

pub returns : goal.returns
returns c = rw c.from.ensures (omega (arith, right-out c.args.a c.args.n))
