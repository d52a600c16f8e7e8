-- `processor_lazy_flags::shift::shl`: no bit leaves 64 bits.
use Rattle.std.proofs.Common.{◌≡◌, ℕ, ◌+◌, ◌-◌, ◌*◌, ◌/◌, ◌%◌, ◌^◌, ◌<◌, sym, refl, ap, ◌∙◌, arith, shl_exact, rules}
use Rattle.processor_arithmetic.specs.Shift.{shift_left_of}
use Rattle.processor_arithmetic.proofs.Floor.{left_out}
use Rattle.processor_lazy_flags.proofs.Kept.{gives_flags}
use Rattle.processor_lazy_flags.proofs.shift.shl.Goals as goal

pub returns : goal.returns
unfolding shift_left_of
returns c = λ psw g.
    let a = c.args in
    let e : a.a * 2 ^ (a.b % 32) % 2 ^ 64 ≡ a.a * 2 ^ (a.b % 32) = shl_exact 32 (a.b % 32) 64 (omega arith) (omega arith) in
    gives_flags psw g _ _ _ _ (rw (c.from.ensures, e, ← left_out a.a (a.b % 32) (omega arith) (omega arith)) at c.carried.ensures)
