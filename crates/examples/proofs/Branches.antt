-- The laws of specs/Branches, proved: the fetched halfword is decoded by its row of the table, and the condition is that
-- row's, true or false in every PSW.
use Prim.Native.Nat.{ℕ, ◌+◌, ◌-◌, ◌%◌, ◌^◌}
use mathlib.Core.Bool.{false}
use mathlib.Core.List.{List}
use mathlib.Core.Path.{◌≡◌, ap, ◌∙◌}
use native.Mathlib.Omega.{arith}
use Rattle.word.specs.Extend.{extend_of}
use Rattle.bus.specs.Memory.{Memory, load_of}
use Rattle.processor_arithmetic.specs.Condition.{condition_of}
use Rattle.processor_decode.specs.Opcode.{decode_of, short_rows, branch_rows, long_rows}
use Rattle.processor_decode.specs.declared.Instruction.TheVariants.{Bcond}
use Rattle.processor_machine.specs.State.{state_of, stepped_of}
use Rattle.processor_machine.specs.declared.Mode.TheVariants.{Running}
use Rattle.processor_machine.specs.declared.Answer.TheVariants.{Ended}
use Rattle.processor_execute.specs.Execute.{execute_of}
use Rattle.processor_step.specs.Interrupted.{accepts_in}
use Rattle.processor_step.specs.Step.{second_of, next_of, running_step_of, instruction_step_of, step_of}
use Rattle.examples.specs.Branches.{BranchesToItself, NeverBranches}

module _ (regs sys : List ℕ) (pc psw : ℕ) (m : Memory) (quiet : accepts_in (state_of regs sys pc psw Running) m ≡ false) where
  -- with no interrupt accepted the step is the instruction's
  runs : step_of (state_of regs sys pc psw Running) m ≡ running_step_of (state_of regs sys pc psw Running) m
  unfolding step_of instruction_step_of
  runs = rw quiet

  -- the two halfwords at PC: BR with displacement 0, and the condition that never holds
  itself : load_of m 2 pc ≡ 0x8A00
      → running_step_of (state_of regs sys pc psw Running) m ≡ execute_of (Bcond 5 0) ((pc + 2) % 2 ^ 32) (state_of regs sys pc psw Running) m
  unfolding running_step_of second_of next_of decode_of short_rows branch_rows long_rows extend_of
  itself e = rw e

  never : load_of m 2 pc ≡ 0x9A00
      → running_step_of (state_of regs sys pc psw Running) m ≡ execute_of (Bcond 13 0) ((pc + 2) % 2 ^ 32) (state_of regs sys pc psw Running) m
  unfolding running_step_of second_of next_of decode_of short_rows branch_rows long_rows extend_of
  never e = rw e

pub branches-to-itself : BranchesToItself
unfolding execute_of condition_of
branches-to-itself regs sys pc psw m small even e quiet =
    let same : (pc + 0) % 2 ^ 32 - (pc + 0) % 2 ^ 32 % 2 ≡ pc = omega arith in
    runs regs sys pc psw m quiet
    ∙ itself regs sys pc psw m quiet e
    ∙ ap (λ (x : ℕ). stepped_of Ended (state_of regs sys x psw Running) m) same

pub never-branches : NeverBranches
unfolding execute_of condition_of
never-branches regs sys pc psw m e quiet = runs regs sys pc psw m quiet ∙ never regs sys pc psw m quiet e
