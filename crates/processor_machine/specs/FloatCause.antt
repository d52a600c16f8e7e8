-- The exceptions of floating instructions (document 000, "List of Exceptions", "PSW"; paper 02, W4): the code of each
-- cause, its flag, and what of PSW is saved.
use Rattle.std.specs.Prelude.{ℕ}
use Rattle.word.specs.Bit.{with_bit}
use Rattle.processor_arithmetic.specs.FloatFlag.{fov_flag, fzd_flag, fiv_flag, fro_flag}
use Rattle.processor_machine.specs.declared.Cause.{Cause}
use Rattle.processor_machine.specs.declared.Cause.TheVariants.{ZeroDivision, Illegal, Trap, Float}
use Rattle.processor_machine.specs.declared.floating.FloatCause.{FloatCause}
use Rattle.processor_machine.specs.declared.floating.FloatCause.TheVariants.{Reserved, Invalid, ZeroDivide}
use Rattle.processor_machine.specs.declared.floating.FloatCause.TheVariants.{Overflow}

abbrev pub float_code_of : FloatCause → ℕ
float_code_of Reserved = 0xFF60
float_code_of Invalid = 0xFF70
float_code_of ZeroDivide = 0xFF68
float_code_of Overflow = 0xFF64

abbrev pub float_flag_of : FloatCause → ℕ
float_flag_of Reserved = fro_flag
float_flag_of Invalid = fiv_flag
float_flag_of ZeroDivide = fzd_flag
float_flag_of Overflow = fov_flag

-- the PSW that is saved: a floating trap sets "the corresponding flag" (000) and keeps every other bit
-- (docs/DECISIONS.md, W4.1)
abbrev pub saved_of : Cause → ℕ → ℕ
saved_of ZeroDivision psw = psw
saved_of Illegal psw = psw
saved_of (Trap vector) psw = psw
saved_of (Float cause) psw = with_bit (float_flag_of cause) psw
