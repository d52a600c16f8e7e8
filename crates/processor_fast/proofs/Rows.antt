-- A row of the dispatch: where an arm did what the decoder's row of its opcode says, the turn is that instruction's.
use Rattle.std.specs.Prelude.{Option, None}
use Rattle.std.proofs.Common.{◌≡◌, ℕ, ◌/◌, Bool, true, false, eqb, ltb, List, ◌++◌, get_or}
use Rattle.word.specs.Choose.{pick}
use Rattle.bus.specs.Memory.{Memory}
use Rattle.processor_decode.specs.Opcode.{decode_of, short_rows, branch_rows, long_rows}
use Rattle.processor_lazy_flags.specs.declared.Flags.{Flags}
use Rattle.processor_fast_compute.specs.inner.Fast.{PerformsAt}
use Rattle.processor_fast_compute.specs.declared.Fast.{Fast}
use Rattle.processor_fast.specs.inner.Turns.{Controls, Turns}
use Rattle.processor_fast.proofs.Turning.{turned}
use Rattle.processor_decode.specs.declared.Instruction.{Instruction}

-- whether opcode k has two halfwords, and its row
abbrev pub two_at : ℕ → Bool
two_at k = pick (ltb k 0b101000) false (pick (eqb k 0b110010) false (pick (eqb k 0b110110) false true))

abbrev pub row_at : ℕ → ℕ → ℕ → Option Instruction
row_at k f s = get_or (short_rows f ++ (branch_rows f ++ long_rows f (pick (two_at k) s 0))) k None

module _ (k : ℕ) (r : Fast) (f s lines base x psw : ℕ) (g : Flags) (regs₀ sys : List ℕ) (m₀ : Memory) (regs : List ℕ) where
  -- a common instruction
  pub row : (m : Memory) → f / 1024 ≡ k → PerformsAt base (two_at k) (row_at k f s) r x g regs₀ m₀ regs m
      → Turns lines base f s r x psw g regs₀ sys m₀ regs sys m
  unfolding decode_of
  row m e p = rw e (λ even aligned. turned r _ _ _ _ _ _ _ _ _ _ _ (p psw sys even aligned))

  -- one on the system registers
  pub control-row : (sys' : List ℕ) → f / 1024 ≡ k → two_at k ≡ false → Controls lines (row_at k f s) r x psw g regs₀ sys regs sys'
      → Turns lines base f s r x psw g regs₀ sys m₀ regs sys' m₀
  unfolding decode_of
  control-row sys' e one p = rw (e, one) (λ even. (rw one at p) m₀ base)
