-- What an instruction leaves that ended: its results in the general registers, PSW, and where it goes on.
use Rattle.std.specs.Prelude.{ℕ, List}
use Rattle.processor_arithmetic.specs.declared.Outcome.{Outcome}
use Rattle.processor_arithmetic.specs.declared.Pair.{Pair}
use Rattle.bus.specs.Memory.{Memory}
use Rattle.processor_machine.specs.State.{State, Stepped, state_of, stepped_of, put_of}
use Rattle.processor_machine.specs.declared.Answer.TheVariants.{Ended}

-- the instruction ended with these general registers and PSW, and goes on at pc
abbrev pub goes_on : (regs : List ℕ) (pc psw : ℕ) → State → Memory → Stepped
goes_on regs pc psw s m = stepped_of Ended (state_of regs s.sys pc psw s.mode) m

-- it gave one value, to register n
abbrev pub gives_of : (n v next : ℕ) → State → Memory → Stepped
gives_of n v next s m = goes_on (put_of s.regs n v) next s.psw s m

-- it gave a result with flags, to register n
abbrev pub result_of : (n : ℕ) (o : Outcome) (next : ℕ) → State → Memory → Stepped
result_of n o next s m = goes_on (put_of s.regs n o.value) next o.psw s m

-- it gave two results: r30's first, so that reg2's wins where reg2 is r30
abbrev pub pair_of : (n : ℕ) (p : Pair) (next : ℕ) → State → Memory → Stepped
pair_of n p next s m = goes_on (put_of (put_of s.regs 30 p.r30) n p.reg2) next p.psw s m
