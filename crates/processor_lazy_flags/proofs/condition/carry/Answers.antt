-- `processor_lazy_flags::condition::carry`: CY of PSW.
use Rattle.std.proofs.Common.{◌≡◌, sym, refl, ap, ◌∙◌, rules}
use Rattle.processor_lazy_flags.proofs.Tests.{carry-bit, bit-one}
use Rattle.processor_arithmetic.specs.Condition.{condition_of}
use Rattle.processor_lazy_flags.proofs.condition.carry.Goals as goal

pub returns : goal.returns
unfolding condition_of
returns c = λ psw. rw (carry-bit psw c.args.flags, bit-one)
