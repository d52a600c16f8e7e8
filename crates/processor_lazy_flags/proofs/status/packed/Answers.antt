-- `processor_lazy_flags::status::packed`: by its definition.
use Rattle.std.proofs.Common.{◌≡◌, ℕ, ◌+◌, ◌-◌, ◌*◌, ◌/◌, ◌%◌, ◌^◌, ◌<◌, sym, refl, ap, ◌∙◌, arith, rules}
use Rattle.processor_lazy_flags.specs.inner.Packed.{packed_of, overflow_of}
use Rattle.processor_lazy_flags.proofs.status.packed.Goals as goal

pub returns : goal.returns
unfolding packed_of
returns c =
    let g = c.args.flags in
    let v : g.value % 2 ^ 32 ≡ g.value = omega arith in
    let o : c.overflow.result / 2147483648 % 2 ≡ overflow_of g = omega (arith, c.overflow.ensures) in
    rw (c.flags.ensures, c.carry.ensures.0, o, v)
