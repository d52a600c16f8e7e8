-- `processor_lazy_flags::status::unpacked`: each flag in its place.
use Rattle.std.proofs.Common.{◌≡◌, sym, refl, ap, ◌∙◌, arith, rules}
use Rattle.processor_arithmetic.specs.Flag.{flags_of}
use Rattle.processor_lazy_flags.specs.inner.Packed.{packed_of}
use Rattle.processor_lazy_flags.proofs.status.unpacked.Goals as goal

pub returns-then-psw-eq0 : goal.returns-then-psw-eq0
unfolding packed_of flags_of
returns-then-psw-eq0 c =
    let h = c.carried.ensures in
    rw (h.value, h.carry, h.overflow) (omega (arith, c.value-value.ensures.0))

pub returns : goal.returns
unfolding packed_of flags_of
returns c =
    let h = c.made.ensures in
    rw (h.value, h.carry, h.overflow) (omega (arith, c.value-value.ensures.0))
