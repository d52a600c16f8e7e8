-- AND, OR, XOR and NOT with their flags (document 000, "Bitwise": OV 0, CY kept). The operations are the logic's own,
-- digit by digit; the laws in Digit say what each bit of a result is.
use Rattle.std.specs.Prelude.{ℕ, ◌-◌, ◌^◌, bit_and, bit_or, bit_xor}
use Rattle.processor_arithmetic.specs.Flag.{keep_carry_of}
use Rattle.processor_arithmetic.specs.declared.Outcome.{Outcome}

-- a bitwise result: OV cleared, S and Z of the value
abbrev pub bits_of : ℕ → ℕ → Outcome
bits_of v psw = record { value = v; psw = keep_carry_of psw 0 v }

unfoldable pub and_of : ℕ → ℕ → ℕ → Outcome
and_of a b psw = bits_of (bit_and a b) psw

unfoldable pub or_of : ℕ → ℕ → ℕ → Outcome
or_of a b psw = bits_of (bit_or a b) psw

unfoldable pub xor_of : ℕ → ℕ → ℕ → Outcome
xor_of a b psw = bits_of (bit_xor a b) psw

unfoldable pub not_of : ℕ → ℕ → Outcome
not_of b psw = bits_of (2 ^ 32 - 1 - b) psw
