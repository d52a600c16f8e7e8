-- `processor_lazy_flags::sum::sub`: the difference and reg1 have the sum reg2.
use Rattle.std.proofs.Common.{◌≡◌, ℕ, ◌+◌, ◌-◌, ◌*◌, ◌/◌, ◌%◌, ◌^◌, ◌<◌, sym, refl, ap, ◌∙◌, arith, rules}
use Rattle.processor_arithmetic.specs.Sum.{difference_of}
use Rattle.processor_lazy_flags.proofs.Sums.{difference-holds}
use Rattle.processor_lazy_flags.proofs.Kept.{gives_flags}
use Rattle.processor_lazy_flags.proofs.sum.sub.Goals as goal

pub returns : goal.returns
unfolding difference_of
returns c = λ psw g.
    let a = c.args in
    gives_flags psw g _ _ _ _ (difference-holds a.a a.b _ (omega arith) (omega arith) refl c.joined.ensures)
