-- `processor_lazy_flags::condition::less`: OV and S of PSW differ.
use Rattle.std.proofs.Common.{◌≡◌, ℕ, ◌+◌, ◌-◌, ◌*◌, ◌/◌, ◌%◌, ◌^◌, ◌<◌, sym, refl, ap, ◌∙◌, arith, rules}
use Rattle.processor_lazy_flags.proofs.Tests.{overflow_bit, sign_bit, top-differ}
use Rattle.processor_arithmetic.specs.Condition.{condition_of}
use Rattle.processor_lazy_flags.specs.inner.Packed.{overflow_of}
use Rattle.processor_lazy_flags.proofs.condition.less.Goals as goal

pub returns : goal.returns
unfolding condition_of
returns c = λ psw.
    let g = c.args.flags in
    let v : g.value % 2 ^ 32 ≡ g.value = omega arith in
    let o : overflow_of g ≡ c.overflow.result / 2 ^ 31 % 2 = omega (arith, c.overflow.ensures) in
    rw (overflow_bit psw g, sign_bit psw g, v, o) (top-differ g.value c.overflow.result (omega arith) (omega arith))
