-- The flags of the floating instructions (document 000, "Floating-Point", "PSW"; request W4). A number leaves the flags
-- of its comparison with zero, so that a zero of either sign is not negative. FRO, FIV, FZD, FOV and FPR are kept.
use Rattle.std.specs.Prelude.{ℕ, ◌+◌, ◌*◌, ◌/◌, ◌^◌, Bool, true, false, nat_lt}
use Rattle.word.specs.Bit.{with_bit}
use Rattle.word.specs.Choose.{pick}
use Rattle.processor_arithmetic.specs.Flag.{bit_of, keep_carry_of, s_flag, cy_flag}
use Rattle.processor_arithmetic.specs.FloatFlag.{fud_flag}
use Rattle.processor_float.specs.Operand.{is_zero}
use Rattle.processor_float.specs.declared.Compared.{Compared}
use Rattle.processor_float.specs.declared.Compared.TheVariants.{Lower, Equal, Higher, Reserved}

-- Z, and S and CY alike; OV is cleared, and the bits above CY stay
unfoldable pub order_flags_of : ℕ → Bool → Bool → ℕ
order_flags_of psw zero negative = psw / 2 ^ 4 * 2 ^ 4 + bit_of negative * (2 ^ cy_flag + 2 ^ s_flag) + bit_of zero

-- FUD, bit 5: set where the result underflowed, else kept
unfoldable pub underflow_of : ℕ → Bool → ℕ
underflow_of psw underflowed = pick underflowed (with_bit fud_flag psw) psw

-- ADDF.S, SUBF.S, MULF.S, DIVF.S and CVT.WS, whose result is the word w
unfoldable pub number_flags_of : ℕ → ℕ → Bool → ℕ
number_flags_of psw w underflowed = order_flags_of (underflow_of psw underflowed) (is_zero w) (nat_lt (2 ^ 31) w)

-- CMPF.S; a reserved operand traps
abbrev pub comparison_flags_of : ℕ → Compared → ℕ
comparison_flags_of psw Lower = order_flags_of psw false true
comparison_flags_of psw Equal = order_flags_of psw true false
comparison_flags_of psw Higher = order_flags_of psw false false
comparison_flags_of psw Reserved = psw

-- CVT.SW and TRNC.SW, whose result is the word w: Z, S is bit 31, OV is cleared, CY is kept (ruling W4.4)
unfoldable pub conversion_flags_of : ℕ → ℕ → ℕ
conversion_flags_of psw w = keep_carry_of psw 0 w
