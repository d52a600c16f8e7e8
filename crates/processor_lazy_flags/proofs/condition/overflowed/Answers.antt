-- `processor_lazy_flags::condition::overflowed`: OV of PSW.
use Rattle.std.proofs.Common.{◌≡◌, ℕ, ◌+◌, ◌-◌, ◌*◌, ◌/◌, ◌%◌, ◌^◌, ◌<◌, sym, refl, ap, ◌∙◌, arith, rules}
use Rattle.processor_lazy_flags.proofs.Tests.{overflow_bit, top_bit}
use Rattle.processor_arithmetic.specs.Condition.{condition_of}
use Rattle.processor_lazy_flags.specs.inner.Packed.{overflow_of}
use Rattle.processor_lazy_flags.proofs.condition.overflowed.Goals as goal

pub returns : goal.returns
unfolding condition_of
returns c = λ psw.
    let g = c.args.flags in
    let o : overflow_of g ≡ c.overflow.result / 2 ^ 31 % 2 = omega (arith, c.overflow.ensures) in
    rw (overflow_bit psw g, o) (top_bit c.overflow.result (omega arith))
