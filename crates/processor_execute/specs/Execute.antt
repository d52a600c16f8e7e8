-- What each instruction does to the processor and the memory (document 000, "Instruction Set"; paper 01,
-- "Instructions"), in the groups of 000. `next` is the address of the following instruction.
use Rattle.std.specs.Prelude.{ℕ, ◌+◌, ◌%◌, ◌^◌, ◌==◌, slice_index}
use Rattle.word.specs.Bit.{is_set}
use Rattle.word.specs.Choose.{pick}
use Rattle.processor_arithmetic.specs.declared.Pair.{Pair}
use Rattle.processor_arithmetic.specs.Flag.{bit_of, set_id_of, clear_id_of, np_flag}
use Rattle.processor_arithmetic.specs.Product.{multiply_of, multiply_unsigned_of}
use Rattle.processor_arithmetic.specs.Quotient.{divide_of, divide_unsigned_of}
use Rattle.processor_arithmetic.specs.Condition.{condition_of}
use Rattle.bus.specs.Memory.{Memory}
use Rattle.processor_decode.specs.declared.Instruction.{Instruction}
use Rattle.processor_decode.specs.declared.Instruction.TheVariants.{Register, Mul, Div, Mulu, Divu, Jmp, Immediate}
use Rattle.processor_decode.specs.declared.Instruction.TheVariants.{Setf, Cli, Sei, Trap, Reti, Halt, Ldsr, Stsr}
use Rattle.processor_decode.specs.declared.Instruction.TheVariants.{Bcond, Jr, Jal, Long, Load, In, Store, Out}
use Rattle.processor_decode.specs.declared.Instruction.TheVariants.{Illegal, Cmpf, Floating, Nintendo}
use Rattle.processor_float.specs.Comparison.{comparison_of}
use Rattle.processor_machine.specs.State.{eipc_place, eipsw_place, fepc_place, fepsw_place}
use Rattle.processor_machine.specs.State.{State, Stepped, state_of, stepped_of, reg_of, put_of, even_of}
use Rattle.processor_machine.specs.System.{system_of, written_of}
use Rattle.processor_machine.specs.Exception.{raise_of}
use Rattle.processor_execute.specs.Result.{goes_on, gives_of, result_of, pair_of}
use Rattle.processor_execute.specs.Floating.{floating_of, settles_of, compares_of, nintendo_of}
use Rattle.processor_execute.specs.Operation.{register_of, immediate_of, long_of}
use Rattle.processor_execute.specs.Transfer.{loaded_of, input_of, stored_of}
use Rattle.processor_machine.specs.declared.Cause as cause
use Rattle.processor_machine.specs.declared.Mode.TheVariants.{Halted}
use Rattle.processor_machine.specs.declared.Answer.TheVariants.{Ended}

-- a division, unless the divisor is zero
abbrev pub divides_of : (divisor n : ℕ) (p : Pair) (next : ℕ) → State → Memory → Stepped
divides_of divisor n p next s m =
    pick (divisor == 0) (raise_of cause.TheVariants.ZeroDivision next s m) (pair_of n p next s m)

-- it goes on at another address, whose bit 0 is dropped
abbrev pub jumps_of : ℕ → State → Memory → Stepped
jumps_of pc s m = goes_on s.regs (even_of pc) s.psw s m

-- the effective address of a load or store, and the target of a relative jump
abbrev pub plus_of : ℕ → ℕ → ℕ
plus_of a disp = (a + disp) % 2 ^ 32

unfoldable pub execute_of : Instruction → ℕ → State → Memory → Stepped
-- Register Transfer, Arithmetic, Bitwise
execute_of (Register op reg1 reg2) next s m =
    result_of reg2 (register_of op (reg_of s reg2) (reg_of s reg1) s.psw) next s m
execute_of (Immediate op imm reg2) next s m = result_of reg2 (immediate_of op (reg_of s reg2) imm s.psw) next s m
execute_of (Long op imm reg1 reg2) next s m = result_of reg2 (long_of op (reg_of s reg1) imm s.psw) next s m
execute_of (Mul reg1 reg2) next s m = pair_of reg2 (multiply_of (reg_of s reg2) (reg_of s reg1) s.psw) next s m
execute_of (Mulu reg1 reg2) next s m = pair_of reg2 (multiply_unsigned_of (reg_of s reg2) (reg_of s reg1) s.psw) next s m
execute_of (Div reg1 reg2) next s m =
    divides_of (reg_of s reg1) reg2 (divide_of (reg_of s reg2) (reg_of s reg1) s.psw) next s m
execute_of (Divu reg1 reg2) next s m =
    divides_of (reg_of s reg1) reg2 (divide_unsigned_of (reg_of s reg2) (reg_of s reg1) s.psw) next s m
execute_of (Setf cond reg2) next s m = gives_of reg2 (bit_of (condition_of cond s.psw)) next s m
-- Load and Input, Store and Output
execute_of (Load width disp reg1 reg2) next s m = gives_of reg2 (loaded_of m width (plus_of (reg_of s reg1) disp)) next s m
execute_of (In width disp reg1 reg2) next s m = gives_of reg2 (input_of m width (plus_of (reg_of s reg1) disp)) next s m
execute_of (Store width disp reg1 reg2) next s m =
    goes_on s.regs next s.psw s (stored_of m width (plus_of (reg_of s reg1) disp) (reg_of s reg2))
execute_of (Out width disp reg1 reg2) next s m =
    goes_on s.regs next s.psw s (stored_of m width (plus_of (reg_of s reg1) disp) (reg_of s reg2))
-- Conditional Branch, Jump
execute_of (Bcond cond disp) next s m =
    pick (condition_of cond s.psw) (jumps_of (plus_of s.pc disp) s m) (goes_on s.regs next s.psw s m)
execute_of (Jmp reg1) next s m = jumps_of (reg_of s reg1) s m
execute_of (Jr disp) next s m = jumps_of (plus_of s.pc disp) s m
execute_of (Jal disp) next s m =
    goes_on (put_of s.regs 31 (plus_of s.pc 4)) (even_of (plus_of s.pc disp)) s.psw s m
-- CPU Control
execute_of (Trap vector) next s m = raise_of (cause.TheVariants.Trap vector) next s m
-- RETI, by NP: PC and PSW from FEPC and FEPSW, or from EIPC and EIPSW
execute_of Reti next s m =
    pick (is_set np_flag s.psw) (goes_on s.regs (slice_index s.sys fepc_place) (slice_index s.sys fepsw_place) s m)
    (goes_on s.regs (slice_index s.sys eipc_place) (slice_index s.sys eipsw_place) s m)
execute_of Halt next s m = stepped_of Ended (state_of s.regs s.sys next s.psw Halted) m
execute_of (Ldsr reg2 id) next s m =
    let w = written_of s.sys s.psw id (reg_of s reg2) in
    stepped_of Ended (state_of s.regs w.sys next w.psw s.mode) m
execute_of (Stsr id reg2) next s m = gives_of reg2 (system_of s.sys s.psw id) next s m
execute_of Cli next s m = goes_on s.regs next (clear_id_of s.psw) s m
execute_of Sei next s m = goes_on s.regs next (set_id_of s.psw) s m
execute_of Illegal next s m = raise_of cause.TheVariants.Illegal next s m
-- Floating-Point, Nintendo
execute_of (Cmpf reg1 reg2) next s m = compares_of (comparison_of (reg_of s reg2) (reg_of s reg1)) next s m
execute_of (Floating op reg1 reg2) next s m = settles_of reg2 (floating_of op (reg_of s reg2) (reg_of s reg1)) next s m
execute_of (Nintendo op reg1 reg2) next s m = gives_of reg2 (nintendo_of op (reg_of s reg2) (reg_of s reg1)) next s m
