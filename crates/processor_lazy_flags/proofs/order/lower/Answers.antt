-- `processor_lazy_flags::order::lower`: by its definition.
use Rattle.std.proofs.Common.{◌≡◌, refl, arith}
use Rattle.processor_arithmetic.specs.Flag.{flags_of}
use Rattle.processor_lazy_flags.specs.inner.Packed.{packed_of}
use Rattle.processor_lazy_flags.proofs.Sums.{carried-holds}
use Rattle.processor_lazy_flags.proofs.order.lower.Goals as goal

pub returns : goal.returns
unfolding packed_of flags_of
returns c = λ psw.
    let h = carried-holds (record { addition = 1; value = 2147483648 }) 1 (omega arith) (omega arith) refl in
    rw (h.value, h.carry, h.overflow) (omega arith)
