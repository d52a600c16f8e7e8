-- `processor_lazy_flags::condition::zero`: Z of PSW.
use Rattle.std.proofs.Common.{◌≡◌, ℕ, ◌+◌, ◌-◌, ◌*◌, ◌/◌, ◌%◌, ◌^◌, ◌<◌, sym, refl, ap, ◌∙◌, arith, rules}
use Rattle.processor_lazy_flags.proofs.Tests.{zero_bit, bit-one}
use Rattle.processor_arithmetic.specs.Condition.{condition_of}
use Rattle.processor_lazy_flags.proofs.condition.zero.Goals as goal

pub returns : goal.returns
unfolding condition_of
returns c = λ psw.
    let g = c.args.flags in
    let v : g.value % 2 ^ 32 ≡ g.value = omega arith in
    rw (zero_bit psw g, bit-one, v)
