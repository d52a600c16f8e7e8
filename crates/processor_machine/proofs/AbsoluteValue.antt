-- The laws of specs/AbsoluteValue, proved.
use native.Mathlib.Omega.{arith}
use lib.IntN.{nat_abs}
use lib.Seq.{get_or-set_same}
use Rattle.processor_arithmetic.specs.Integer.{signed}
use Rattle.processor_machine.specs.System.{system_of, written_of}
use Rattle.processor_machine.specs.AbsoluteValue.{AbsoluteRead}

pub absolute-read : AbsoluteRead
unfolding system_of written_of
absolute-read sys psw v l h = get_or-set_same sys 7 (nat_abs (signed v)) 0 (omega arith)
