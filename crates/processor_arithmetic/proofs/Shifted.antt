-- The laws of specs/Shifted, proved.
use Rattle.std.proofs.Common.{◌*◌, ◌/◌, ◌%◌, ◌^◌, ℤ, pos, ◌+ℤ◌, ◌*ℤ◌, sym, ◌∙◌, ap₂, mod-lt, arith, pow_pos}
use lib.Pow.{shr_le}
use Rattle.word.proofs.Floors.{floor-split}
use Rattle.processor_arithmetic.specs.Shift.{left_out_of, right_out_of, arithmetic_right_of, shift_left_of, shift_right_of, shift_arithmetic_of}
use Rattle.processor_arithmetic.specs.Integer.{signed}
use Rattle.processor_arithmetic.proofs.Places.{flags-placed}
use Rattle.processor_arithmetic.proofs.Floor.{sar-word, sar-floor, low-rest, left-some, left-zero, left-bit, right-some, right_zero, right-bit}
use Rattle.processor_arithmetic.specs.Shifted.{ShiftLeftPlaced, ShiftLeftOut, ShiftLeftNone, ShiftRightPlaced}
use Rattle.processor_arithmetic.specs.Shifted.{ShiftRightOut, ShiftRightNone, ShiftArithmeticPlaced}
use Rattle.processor_arithmetic.specs.Shifted.{ShiftArithmeticOut, ShiftArithmeticNone, ShiftArithmeticFloor}

pub shift-left-placed : ShiftLeftPlaced
unfolding shift_left_of
shift-left-placed a b psw = flags-placed psw (left_out_of a (b % 32)) 0 (a * 2 ^ (b % 32) % 2 ^ 32) (left-bit a (b % 32)) (omega arith) (omega arith)

pub shift-left-out : ShiftLeftOut
shift-left-out a b psw h = (shift-left-placed a b psw).at_cy ∙ left-some a (b % 32) h

pub shift-left-none : ShiftLeftNone
shift-left-none a b psw e = (shift-left-placed a b psw).at_cy ∙ left-zero a (b % 32) e

pub shift-right-placed : ShiftRightPlaced
unfolding shift_right_of
shift-right-placed a b psw ha =
    flags-placed psw (right_out_of a (b % 32)) 0 (a / 2 ^ (b % 32)) (right-bit a (b % 32)) (omega arith) (omega (arith, shr_le a (b % 32)))

pub shift-right-out : ShiftRightOut
shift-right-out a b psw ha h = (shift-right-placed a b psw ha).at_cy ∙ right-some a (b % 32) h

pub shift-right-none : ShiftRightNone
shift-right-none a b psw ha e = (shift-right-placed a b psw ha).at_cy ∙ right_zero a (b % 32) e

pub shift-arithmetic-placed : ShiftArithmeticPlaced
unfolding shift_arithmetic_of
shift-arithmetic-placed a b psw ha =
    flags-placed psw (right_out_of a (b % 32)) 0 (arithmetic_right_of a (b % 32)) (right-bit a (b % 32)) (omega arith) (sar-word a (b % 32) ha)

pub shift-arithmetic-out : ShiftArithmeticOut
shift-arithmetic-out a b psw ha h = (shift-arithmetic-placed a b psw ha).at_cy ∙ right-some a (b % 32) h

pub shift-arithmetic-none : ShiftArithmeticNone
shift-arithmetic-none a b psw ha e = (shift-arithmetic-placed a b psw ha).at_cy ∙ right_zero a (b % 32) e

pub shift-arithmetic-floor : ShiftArithmeticFloor
unfolding shift_arithmetic_of
shift-arithmetic-floor a b psw ha =
    let n = b % 32 in (
      floor-split (signed a) (2 ^ n)
          ∙ ap₂ (λ (q r : ℤ). q *ℤ pos (2 ^ n) +ℤ r) (sym (sar-floor a n ha)) (sym (low-rest a n (omega arith))),
      mod-lt a (pow_pos n),
    )
