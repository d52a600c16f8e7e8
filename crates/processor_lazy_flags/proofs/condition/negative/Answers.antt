-- `processor_lazy_flags::condition::negative`: S of PSW.
use Rattle.std.proofs.Common.{◌≡◌, ℕ, ◌+◌, ◌-◌, ◌*◌, ◌/◌, ◌%◌, ◌^◌, ◌<◌, sym, refl, ap, ◌∙◌, arith, rules}
use Rattle.processor_lazy_flags.proofs.Tests.{sign_bit, top_bit}
use Rattle.processor_arithmetic.specs.Condition.{condition_of}
use Rattle.processor_lazy_flags.proofs.condition.negative.Goals as goal

pub returns : goal.returns
unfolding condition_of
returns c = λ psw.
    let g = c.args.flags in
    let v : g.value % 2 ^ 32 ≡ g.value = omega arith in
    rw (sign_bit psw g, v) (top_bit g.value (omega arith))
