-- `processor_lazy_flags::sum::add`: the addition is its own.
use Rattle.std.proofs.Common.{◌≡◌, ℕ, ◌+◌, ◌-◌, ◌*◌, ◌/◌, ◌%◌, ◌^◌, ◌<◌, sym, refl, ap, ◌∙◌, arith, rules}
use Rattle.processor_arithmetic.specs.Sum.{sum_of}
use Rattle.processor_lazy_flags.proofs.Sums.{sum-holds}
use Rattle.processor_lazy_flags.proofs.Kept.{gives_flags}
use Rattle.processor_lazy_flags.proofs.sum.add.Goals as goal

pub returns : goal.returns
unfolding sum_of
returns c = λ psw g.
    let a = c.args in
    gives_flags psw g _ _ _ _ (sum-holds a.a a.b _ (omega arith) (omega arith) refl c.joined.ensures)
