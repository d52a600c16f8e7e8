-- `processor_lazy_flags::order::higher`: by its definition.
use Rattle.std.proofs.Common.{◌≡◌, refl, arith}
use Rattle.processor_arithmetic.specs.Flag.{flags_of}
use Rattle.processor_lazy_flags.specs.inner.Packed.{packed_of}
use Rattle.processor_lazy_flags.proofs.Sums.{carried-holds}
use Rattle.processor_lazy_flags.proofs.order.higher.Goals as goal

pub returns : goal.returns
unfolding packed_of flags_of
returns c = λ psw.
    let h = carried-holds (record { addition = 0; value = 1 }) 0 (omega arith) (omega arith) refl in
    rw (h.carry, h.overflow) (omega arith)
