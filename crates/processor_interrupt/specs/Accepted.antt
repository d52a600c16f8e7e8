-- Which interrupt is accepted, said exactly (paper 02, W6: "accepted exactly if some raised line's level is at least I
-- while NP, EP and ID are all clear; the highest such level wins"), and the entry against a regular exception's: the
-- statements. Their proofs are `accepts-taken`, `acceptable-accepts` and `entry-regular` in proofs/Exactly.
use Rattle.std.specs.Prelude.{ℕ, ◌+◌, ◌<◌, ◌≤◌, true, ◌≡◌}
use Rattle.word.specs.Bit.{bit_at}
use Rattle.bus.specs.Memory.{Memory}
use Rattle.processor_arithmetic.specs.Flag.{id_flag, ep_flag, np_flag}
use Rattle.processor_machine.specs.State.{State, state_of}
use Rattle.processor_machine.specs.Exception.{regular_entry_of}
use Rattle.processor_machine.specs.declared.Cause.{Cause}
use Rattle.processor_machine.specs.declared.Mode.{Mode}
use Rattle.processor_machine.specs.declared.Mode.TheVariants.{Running, Fatal}
use Rattle.processor_interrupt.specs.Interrupt.{line_of, masking_level_of, level_of, accepts_of, interrupt_code_of}
use Rattle.processor_interrupt.specs.Interrupt.{interrupt_handler_of, with_level_of, interrupted_of}

-- a raised line whose level is at least I, in a machine that accepts interrupts
pub record Acceptable (lines psw : ℕ) (mode : Mode) (level : ℕ) : Type 0 where
  pub level_below : level < 5
  pub raised : line_of level lines ≡ 1
  pub at_least : masking_level_of psw ≤ level
  pub np_clear : bit_at np_flag psw ≡ 0
  pub ep_clear : bit_at ep_flag psw ≡ 0
  pub id_clear : bit_at id_flag psw ≡ 0
  pub not_fatal : mode ≡ Fatal → ⊥

-- the level taken is such a line's, and no raised line's is above it
pub record Taken (lines psw : ℕ) (mode : Mode) : Type 0 where
  pub acceptable : Acceptable lines psw mode (level_of lines)
  pub highest : (n : ℕ) → n < 5 → line_of n lines ≡ 1 → n ≤ level_of lines

abbrev pub AcceptsTaken : Type 0
AcceptsTaken = (lines psw : ℕ) (mode : Mode) → accepts_of lines psw mode ≡ true → Taken lines psw mode

abbrev pub AcceptableAccepts : Type 0
AcceptableAccepts =
    (lines psw : ℕ) (mode : Mode) (n : ℕ) → Acceptable lines psw mode n → accepts_of lines psw mode ≡ true

-- the machine with I replaced, running
abbrev pub woken_of : ℕ → State → State
woken_of level s = state_of s.regs s.sys s.pc (with_level_of level s.psw) Running

-- the entry is a regular exception's (which names its cause, and changes no memory) with I replaced, mode running
abbrev pub EntryRegular : Type 0
EntryRegular =
    (level : ℕ) (s : State) (cause : Cause) (m : Memory)
    → interrupted_of level s
    ≡ woken_of (level + 1)
    (regular_entry_of cause (interrupt_code_of level) (interrupt_handler_of level) s.pc s.psw s m).state
