-- `processor_arithmetic::shift::shl`: no bit leaves 64 bits.
use Rattle.std.proofs.Common.{◌≡◌, ◌+◌, ◌-◌, ◌*◌, ◌/◌, ◌%◌, ◌^◌, ◌<◌, ◌≤◌, arith, shl_exact, rules}
use Rattle.processor_arithmetic.specs.Shift.{shift_left_of}
use Rattle.processor_arithmetic.proofs.Floor.{left_out}
use Rattle.processor_arithmetic.proofs.shift.shl.Goals as goal

pub returns : goal.returns
unfolding shift_left_of
returns c =
    let a = c.args in
    let e : a.a * 2 ^ (a.b % 32) % 2 ^ 64 ≡ a.a * 2 ^ (a.b % 32) = shl_exact 32 (a.b % 32) 64 (omega arith) (omega arith) in
    rw (left_out a.a (a.b % 32) (omega arith) (omega arith)) (rw (c.from.ensures, e) at c.shifted.ensures)
