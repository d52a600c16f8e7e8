-- `processor_lazy_flags::shift::sar`: the last bit out is CY.
use Rattle.std.proofs.Common.{◌≡◌, sym, refl, ap, ◌∙◌, rules}
use Rattle.processor_arithmetic.specs.Shift.{shift_arithmetic_of}
use Rattle.processor_lazy_flags.proofs.Kept.{gives_flags}
use Rattle.processor_lazy_flags.proofs.shift.sar.Goals as goal

pub returns : goal.returns
unfolding shift_arithmetic_of
returns c = λ psw g. gives_flags psw g _ _ _ _
    (rw (c.right_out.ensures.0, c.arithmetic_right.ensures) at c.carried.ensures)
