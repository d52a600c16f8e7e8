-- Exceptions (document 000, "Exception Processing", "List of Exceptions"; paper 01): the code, handler and restore PC
-- of each cause, and the one entry that all of them take.
use Rattle.std.specs.Prelude.{ℕ, ◌+◌, ◌*◌, ◌/◌, ◌%◌, ◌^◌, ltb, get_or, set}
use Rattle.word.specs.Bit.{is_set}
use Rattle.word.specs.Choose.{pick}
use Rattle.processor_arithmetic.specs.Flag.{regular_of, duplexed_of, ep_flag, np_flag}
use Rattle.bus.specs.Memory.{Memory}
use Rattle.processor_machine.specs.FloatCause.{float_code_of, saved_of}
use Rattle.processor_machine.specs.State.{eipc_place, eipsw_place, fepc_place, fepsw_place, ecr_place}
use Rattle.processor_machine.specs.State.{State, Stepped, state_of, stepped_of}
use Rattle.processor_machine.specs.declared.Mode.TheVariants.{Fatal}
use Rattle.processor_machine.specs.declared.Cause.{Cause}
use Rattle.processor_machine.specs.declared.Cause.TheVariants.{ZeroDivision, Illegal, Trap, Float}
use Rattle.processor_machine.specs.declared.Answer.TheVariants.{Trapped, TurnedFatal}

-- the code; a vector has five bits
abbrev pub code_of : Cause → ℕ
code_of ZeroDivision = 0xFF80
code_of Illegal = 0xFF90
code_of (Trap vector) = 0xFFA0 + vector % 32
code_of (Float cause) = float_code_of cause

-- the handler's address
abbrev pub handler_of : Cause → ℕ
handler_of ZeroDivision = 0xFFFFFF80
handler_of Illegal = 0xFFFFFF90
handler_of (Trap vector) = pick (ltb (vector % 32) 16) 0xFFFFFFA0 0xFFFFFFB0
handler_of (Float cause) = 0xFFFFFF60

-- the restore PC, of an instruction at pc whose next is at `next`
abbrev pub restore_of : Cause → ℕ → ℕ → ℕ
restore_of ZeroDivision pc next = pc
restore_of Illegal pc next = pc
restore_of (Trap vector) pc next = next
restore_of (Float cause) pc next = pc

-- an exception with NP set: "mode fatal, nothing else changes"
abbrev pub fatal_of : Cause → State → Memory → Stepped
fatal_of cause s m = stepped_of (TurnedFatal cause) (state_of s.regs s.sys s.pc s.psw Fatal) m

-- a duplexed exception: FEPC, FEPSW and the high half of ECR are filled
abbrev pub duplexed_entry_of : (cause : Cause) (code restore saved : ℕ) → State → Memory → Stepped
duplexed_entry_of cause code restore saved s m =
    let sys = set (set s.sys fepc_place restore) fepsw_place saved in
    stepped_of (Trapped cause)
    (state_of s.regs (set sys ecr_place (get_or sys ecr_place 0 % 2 ^ 16 + code * 2 ^ 16)) 0xFFFFFFD0 (duplexed_of saved)
    s.mode) m

-- a regular exception: EIPC, EIPSW and the low half of ECR are filled
abbrev pub regular_entry_of : (cause : Cause) (code handler restore saved : ℕ) → State → Memory → Stepped
regular_entry_of cause code handler restore saved s m =
    let sys = set (set s.sys eipc_place restore) eipsw_place saved in
    stepped_of (Trapped cause)
    (state_of s.regs (set sys ecr_place (get_or sys ecr_place 0 / 2 ^ 16 * 2 ^ 16 + code)) handler (regular_of saved)
    s.mode) m

-- the entry, by NP and EP: `saved` is the PSW that is saved
unfoldable pub enter_of : (cause : Cause) (code handler restore saved : ℕ) → State → Memory → Stepped
enter_of cause code handler restore saved s m =
    pick (is_set np_flag s.psw) (fatal_of cause s m)
    (pick (is_set ep_flag s.psw) (duplexed_entry_of cause code restore saved s m)
    (regular_entry_of cause code handler restore saved s m))

-- an exception of the instruction at PC
unfoldable pub raise_of : Cause → ℕ → State → Memory → Stepped
raise_of cause next s m =
    enter_of cause (code_of cause) (handler_of cause) (restore_of cause s.pc next) (saved_of cause s.psw) s m
