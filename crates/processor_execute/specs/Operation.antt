-- What the instructions of Formats I, II and V compute (document 000, "Register Transfer", "Arithmetic", "Bitwise").
use Rattle.std.specs.Prelude.{ℕ, ◌+◌, ◌*◌, ◌%◌, ◌^◌}
use Rattle.processor_arithmetic.specs.declared.Outcome.{Outcome}
use Rattle.processor_arithmetic.specs.Sum.{sum_of, difference_of, compare_of}
use Rattle.processor_arithmetic.specs.Shift.{shift_left_of, shift_right_of, shift_arithmetic_of}
use Rattle.processor_arithmetic.specs.Bitwise.{and_of, or_of, xor_of, not_of}
use Rattle.processor_decode.specs.declared.RegisterOperation.{RegisterOperation}
use Rattle.processor_decode.specs.declared.ImmediateOperation.{ImmediateOperation}
use Rattle.processor_decode.specs.declared.LongOperation.{LongOperation}

-- a result that leaves the flags as they were
abbrev pub plain : ℕ → ℕ → Outcome
plain v psw = record { value = v; psw = psw }

-- Format I: a is reg2 and b is reg1
abbrev pub register_of : RegisterOperation → ℕ → ℕ → ℕ → Outcome
register_of RegisterOperation.Mov a b psw = plain b psw
register_of RegisterOperation.Add a b psw = sum_of a b psw
register_of RegisterOperation.Sub a b psw = difference_of a b psw
register_of RegisterOperation.Cmp a b psw = compare_of a b psw
register_of RegisterOperation.Shl a b psw = shift_left_of a b psw
register_of RegisterOperation.Shr a b psw = shift_right_of a b psw
register_of RegisterOperation.Sar a b psw = shift_arithmetic_of a b psw
register_of RegisterOperation.Or a b psw = or_of a b psw
register_of RegisterOperation.And a b psw = and_of a b psw
register_of RegisterOperation.Xor a b psw = xor_of a b psw
register_of RegisterOperation.Not a b psw = not_of b psw

-- Format II: a is reg2 and b the immediate
abbrev pub immediate_of : ImmediateOperation → ℕ → ℕ → ℕ → Outcome
immediate_of ImmediateOperation.Mov a b psw = plain b psw
immediate_of ImmediateOperation.Add a b psw = sum_of a b psw
immediate_of ImmediateOperation.Cmp a b psw = compare_of a b psw
immediate_of ImmediateOperation.Shl a b psw = shift_left_of a b psw
immediate_of ImmediateOperation.Shr a b psw = shift_right_of a b psw
immediate_of ImmediateOperation.Sar a b psw = shift_arithmetic_of a b psw

-- Format V: a is reg1 and b the immediate; MOVHI is "reg1 + (imm << 16)"
abbrev pub long_of : LongOperation → ℕ → ℕ → ℕ → Outcome
long_of LongOperation.Movea a b psw = plain ((a + b) % 2 ^ 32) psw
long_of LongOperation.Addi a b psw = sum_of a b psw
long_of LongOperation.Ori a b psw = or_of a b psw
long_of LongOperation.Andi a b psw = and_of a b psw
long_of LongOperation.Xori a b psw = xor_of a b psw
long_of LongOperation.Movhi a b psw = plain ((a + b * 2 ^ 16) % 2 ^ 32) psw
