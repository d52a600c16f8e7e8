-- What the instructions of 000's groups "Floating-Point" and "Nintendo" compute and leave (request W4). a is reg2 and b
-- is reg1; the results of the four operations are reg2 `op` reg1, the conversions and REV are of reg1 alone.
use Rattle.std.specs.Prelude.{ℕ, false, to_bits}
use Rattle.std.specs.Float.{binary32}
use Rattle.std.specs.Float.Ieee.{of_int}
use Rattle.processor_arithmetic.specs.Integer.{signed}
use Rattle.bus.specs.Memory.{Memory}
use Rattle.processor_decode.specs.declared.sub_opcode.FloatingOperation.{FloatingOperation}
use Rattle.processor_decode.specs.declared.sub_opcode.NintendoOperation.{NintendoOperation}
use Rattle.processor_float.specs.Arithmetic.{outcome_of}
use Rattle.processor_float.specs.Conversion.{nearest_of, truncated_of}
use Rattle.processor_float.specs.Flag.{number_flags_of, comparison_flags_of, conversion_flags_of}
use Rattle.processor_float.specs.Nintendo.{xb_of, xh_of, rev_of, mpyhw_of}
use Rattle.processor_float.specs.declared.Operation.{Operation}
use Rattle.processor_float.specs.declared.FloatOutcome.{FloatOutcome}
use Rattle.processor_float.specs.declared.FloatOutcome.TheVariants.{Number, Word, Reserved, Invalid, ZeroDivide}
use Rattle.processor_float.specs.declared.FloatOutcome.TheVariants.{Overflow}
use Rattle.processor_float.specs.declared.Compared.{Compared}
use Rattle.processor_machine.specs.State.{State, Stepped, put_of}
use Rattle.processor_machine.specs.Exception.{raise_of}
use Rattle.processor_machine.specs.declared.Cause.TheVariants.{Float}
use Rattle.processor_machine.specs.declared.floating.FloatCause.{FloatCause}
use Rattle.processor_execute.specs.Result.{goes_on}

abbrev pub floating_of : FloatingOperation → ℕ → ℕ → FloatOutcome
floating_of FloatingOperation.CvtWs a b = Number (of_int binary32 (signed b)) false
floating_of FloatingOperation.CvtSw a b = nearest_of b
floating_of FloatingOperation.Addf a b = outcome_of Operation.Add a b
floating_of FloatingOperation.Subf a b = outcome_of Operation.Subtract a b
floating_of FloatingOperation.Mulf a b = outcome_of Operation.Multiply a b
floating_of FloatingOperation.Divf a b = outcome_of Operation.Divide a b
floating_of FloatingOperation.TrncSw a b = truncated_of b

-- it came to a floating outcome: a number goes to register n as its word, a whole number as it is, and a trap leaves
-- the general registers as found
abbrev pub settles_of : (n : ℕ) (o : FloatOutcome) (next : ℕ) → State → Memory → Stepped
settles_of n (Number v underflowed) next s m =
    let w = to_bits binary32 v in
    goes_on (put_of s.regs n w) next (number_flags_of s.psw w underflowed) s m
settles_of n (Word w) next s m = goes_on (put_of s.regs n w) next (conversion_flags_of s.psw w) s m
settles_of n Reserved next s m = raise_of (Float FloatCause.Reserved) next s m
settles_of n Invalid next s m = raise_of (Float FloatCause.Invalid) next s m
settles_of n ZeroDivide next s m = raise_of (Float FloatCause.ZeroDivide) next s m
settles_of n Overflow next s m = raise_of (Float FloatCause.Overflow) next s m

-- it compared two floats
abbrev pub compares_of : Compared → ℕ → State → Memory → Stepped
compares_of Compared.Lower next s m = goes_on s.regs next (comparison_flags_of s.psw Compared.Lower) s m
compares_of Compared.Equal next s m = goes_on s.regs next (comparison_flags_of s.psw Compared.Equal) s m
compares_of Compared.Higher next s m = goes_on s.regs next (comparison_flags_of s.psw Compared.Higher) s m
compares_of Compared.Reserved next s m = raise_of (Float FloatCause.Reserved) next s m

abbrev pub nintendo_of : NintendoOperation → ℕ → ℕ → ℕ
nintendo_of NintendoOperation.Xb a b = xb_of a
nintendo_of NintendoOperation.Xh a b = xh_of a
nintendo_of NintendoOperation.Rev a b = rev_of b
nintendo_of NintendoOperation.Mpyhw a b = mpyhw_of a b
