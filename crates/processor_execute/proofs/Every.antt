-- What holds of the machine after every instruction: it does if it holds after one that ended, after HALT, after a store
-- and after each entry of an exception. Assumes nothing.
use Rattle.std.proofs.Common.{◌≡◌, ℕ, eqb, List, refl}
use Rattle.word.specs.Bit.{is_set}
use Rattle.word.proofs.Choices.{pick-each}
use Rattle.bus.specs.Memory.{Memory}
use Rattle.processor_arithmetic.specs.Condition.{condition_of}
use Rattle.processor_arithmetic.specs.Flag.{ep_flag, np_flag}
use Rattle.processor_decode.specs.declared.Instruction.{Instruction}
use Rattle.processor_decode.specs.declared.Instruction.TheVariants.{Register, Mul, Div, Mulu, Divu, Jmp, Immediate}
use Rattle.processor_decode.specs.declared.Instruction.TheVariants.{Setf, Cli, Sei, Trap, Reti, Halt, Ldsr, Stsr}
use Rattle.processor_decode.specs.declared.Instruction.TheVariants.{Bcond, Jr, Jal, Long, Load, In, Store, Out}
use Rattle.processor_decode.specs.declared.Instruction.TheVariants.{Illegal, Cmpf, Floating, Nintendo}
use Rattle.word.specs.declared.width.Width.{Width}
use Rattle.processor_float.specs.Comparison.{comparison_of}
use Rattle.processor_float.specs.declared.Compared.{Compared}
use Rattle.processor_float.specs.declared.FloatOutcome.{FloatOutcome}
use Rattle.processor_float.specs.declared.FloatOutcome.TheVariants.{Number, Word, Reserved, Invalid, ZeroDivide, Overflow}
use Rattle.processor_machine.specs.State.{State, Stepped, state_of, stepped_of, reg_of}
use Rattle.processor_machine.specs.Exception.{fatal_of, enter_of, raise_of}
use Rattle.processor_machine.specs.declared.Answer.TheVariants.{Ended, Trapped}
use Rattle.processor_machine.specs.declared.Cause as cause
use Rattle.processor_machine.specs.declared.Mode.TheVariants.{Halted}
use Rattle.processor_machine.specs.declared.floating.FloatCause.{FloatCause}
use Rattle.processor_execute.specs.Result.{goes_on}
use Rattle.processor_execute.specs.Floating.{floating_of, settles_of, compares_of}
use Rattle.processor_execute.specs.Transfer.{stored_of}
use Rattle.processor_execute.specs.Execute.{plus_of, execute_of}

-- it holds after an instruction that ended and stored nothing, after HALT, and after each entry of an exception
pub record Leaves (P : Stepped → Type 0) (next : ℕ) (s : State) (m : Memory) : Type 0 where
  pub ended : (regs sys : List ℕ) (pc psw : ℕ) → P (stepped_of Ended (state_of regs sys pc psw s.mode) m)
  pub halted : P (stepped_of Ended (state_of s.regs s.sys next s.psw Halted) m)
  pub trapped : (c : cause.Cause) (sys : List ℕ) (pc psw : ℕ)
      → P (stepped_of (Trapped c) (state_of s.regs sys pc psw s.mode) m)
  pub fatal : (c : cause.Cause) → P (fatal_of c s m)

module _ (P : Stepped → Type 0) (next : ℕ) (s : State) (m : Memory) where
  -- it holds after what ST or OUT stores, where it is the instruction i
  abbrev pub Stored : Instruction → Type 0
  Stored i =
      (width : Width) (disp reg1 reg2 : ℕ)
      → (i ≡ Store width disp reg1 reg2 → P (goes_on s.regs next s.psw s (stored_of m width (plus_of (reg_of s reg1) disp) (reg_of s reg2))))
      × (i ≡ Out width disp reg1 reg2 → P (goes_on s.regs next s.psw s (stored_of m width (plus_of (reg_of s reg1) disp) (reg_of s reg2))))

  module _ (l : Leaves P next s m) where
    raise-every : (c : cause.Cause) → P (raise_of c next s m)
    unfolding raise_of enter_of
    raise-every c =
        pick-each P (is_set np_flag s.psw) _ _ (l.fatal c)
        (pick-each P (is_set ep_flag s.psw) _ _ (l.trapped c _ _ _) (l.trapped c _ _ _))

    settles-every : (n : ℕ) (o : FloatOutcome) → P (settles_of n o next s m)
    settles-every n (Number v underflowed) = l.ended _ _ _ _
    settles-every n (Word w) = l.ended _ _ _ _
    settles-every n Reserved = raise-every (cause.TheVariants.Float FloatCause.Reserved)
    settles-every n Invalid = raise-every (cause.TheVariants.Float FloatCause.Invalid)
    settles-every n ZeroDivide = raise-every (cause.TheVariants.Float FloatCause.ZeroDivide)
    settles-every n Overflow = raise-every (cause.TheVariants.Float FloatCause.Overflow)

    compares-every : (c : Compared) → P (compares_of c next s m)
    compares-every Compared.Lower = l.ended _ _ _ _
    compares-every Compared.Equal = l.ended _ _ _ _
    compares-every Compared.Higher = l.ended _ _ _ _
    compares-every Compared.Reserved = raise-every (cause.TheVariants.Float FloatCause.Reserved)

    pub execute-every : (i : Instruction) → Stored i → P (execute_of i next s m)
    unfolding execute_of
    execute-every (Register op reg1 reg2) h = l.ended _ _ _ _
    execute-every (Immediate op imm reg2) h = l.ended _ _ _ _
    execute-every (Long op imm reg1 reg2) h = l.ended _ _ _ _
    execute-every (Mul reg1 reg2) h = l.ended _ _ _ _
    execute-every (Mulu reg1 reg2) h = l.ended _ _ _ _
    execute-every (Div reg1 reg2) h =
        pick-each P (eqb (reg_of s reg1) 0) _ _ (raise-every cause.TheVariants.ZeroDivision) (l.ended _ _ _ _)
    execute-every (Divu reg1 reg2) h =
        pick-each P (eqb (reg_of s reg1) 0) _ _ (raise-every cause.TheVariants.ZeroDivision) (l.ended _ _ _ _)
    execute-every (Setf cond reg2) h = l.ended _ _ _ _
    execute-every (Load width disp reg1 reg2) h = l.ended _ _ _ _
    execute-every (In width disp reg1 reg2) h = l.ended _ _ _ _
    execute-every (Store width disp reg1 reg2) h = (h width disp reg1 reg2).0 refl
    execute-every (Out width disp reg1 reg2) h = (h width disp reg1 reg2).1 refl
    execute-every (Bcond cond disp) h = pick-each P (condition_of cond s.psw) _ _ (l.ended _ _ _ _) (l.ended _ _ _ _)
    execute-every (Jmp reg1) h = l.ended _ _ _ _
    execute-every (Jr disp) h = l.ended _ _ _ _
    execute-every (Jal disp) h = l.ended _ _ _ _
    execute-every (Trap vector) h = raise-every (cause.TheVariants.Trap vector)
    execute-every Reti h = pick-each P (is_set np_flag s.psw) _ _ (l.ended _ _ _ _) (l.ended _ _ _ _)
    execute-every Halt h = l.halted
    execute-every (Ldsr reg2 id) h = l.ended _ _ _ _
    execute-every (Stsr id reg2) h = l.ended _ _ _ _
    execute-every Cli h = l.ended _ _ _ _
    execute-every Sei h = l.ended _ _ _ _
    execute-every Illegal h = raise-every cause.TheVariants.Illegal
    execute-every (Cmpf reg1 reg2) h = compares-every (comparison_of (reg_of s reg2) (reg_of s reg1))
    execute-every (Floating op reg1 reg2) h = settles-every reg2 (floating_of op (reg_of s reg2) (reg_of s reg1))
    execute-every (Nintendo op reg1 reg2) h = l.ended _ _ _ _
