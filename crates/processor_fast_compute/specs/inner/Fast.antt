-- What the dispatch of a common instruction answers (paper 01, "Instructions"). Either the index x of the next
-- instruction, in code that stands from the address `base` on, and the lazy flags; or that the instruction is left to
-- the step, with nothing changed.
use Rattle.std.specs.Prelude.{◌≡◌, ℕ, ◌+◌, ◌%◌, ◌^◌, Bool, true, List, Option}
use Rattle.bus.specs.Memory.{Memory}
use Rattle.processor_execute.specs.Floating.{settles_of}
use Rattle.processor_float.specs.declared.FloatOutcome.{FloatOutcome}
use Rattle.processor_lazy_flags.specs.inner.Packed.{packed_of}
use Rattle.processor_lazy_flags.specs.declared.Flags.{Flags}
use Rattle.processor_machine.specs.State.{State, Stepped, state_of, stepped_of}
use Rattle.processor_machine.specs.declared.Answer.TheVariants.{Ended}
use Rattle.processor_machine.specs.declared.Mode.TheVariants.{Running}
use Rattle.processor_step.specs.Step.{next_of, perform_of}
use Rattle.processor_fast_compute.specs.declared.Fast.{Fast}
use Rattle.processor_fast_compute.specs.declared.Fast.TheVariants.{Done, Masked, NotHere}
use Rattle.processor_decode.specs.declared.Instruction.{Instruction}

-- the address of index x
abbrev pub address_of : ℕ → ℕ → ℕ
address_of base x = (base + x) % 2 ^ 32

-- the machine at index x, with these flags in PSW
abbrev pub machine_of : List ℕ → List ℕ → ℕ → ℕ → ℕ → Flags → State
machine_of regs sys base x psw g = state_of regs sys (address_of base x) (packed_of psw g) Running

-- an answer, for an instruction that gives t and leaves PSW above its flags: before it the general registers and the
-- memory were regs₀ and m₀
abbrev pub Does : Fast → ℕ → ℕ → List ℕ → Memory → List ℕ → Memory → List ℕ → Stepped → Type 0
Does (Done x addition value) base psw regs₀ m₀ regs m sys t =
    (stepped_of Ended (machine_of regs sys base x psw (record { addition = addition; value = value })) m ≡ t)
    × (x % 2 ≡ 0)
Does (Masked p) base psw regs₀ m₀ regs m sys t = ⊥
Does NotHere base psw regs₀ m₀ regs m sys t = (regs ≡ regs₀) × (m ≡ m₀)

-- the answer for what was decoded at index x, of two halfwords or one: for every PSW and all system registers
abbrev pub PerformsAt : ℕ → Bool → Option Instruction → Fast → ℕ → Flags → List ℕ → Memory → List ℕ → Memory → Type 0
PerformsAt base two d r x g regs₀ m₀ regs m =
    (psw : ℕ) (sys : List ℕ) → base % 2 ≡ 0 → x % 2 ≡ 0
    → Does r base psw regs₀ m₀ regs m sys
    (perform_of d (next_of two (address_of base x)) (machine_of regs₀ sys base x psw g) m₀)

-- the same wherever the code stands
abbrev pub Performs : Bool → Option Instruction → Fast → ℕ → Flags → List ℕ → Memory → List ℕ → Memory → Type 0
Performs two d r x g regs₀ m₀ regs m = (base : ℕ) → PerformsAt base two d r x g regs₀ m₀ regs m

-- the same for every memory, which stays
abbrev pub Computes : Bool → Option Instruction → Fast → ℕ → Flags → List ℕ → List ℕ → Type 0
Computes two d r x g regs₀ regs = (m : Memory) → Performs two d r x g regs₀ m regs m

-- the answer for a floating instruction of two halfwords that came to an outcome, for register n
abbrev pub Settles : ℕ → FloatOutcome → Fast → ℕ → Flags → List ℕ → List ℕ → Type 0
Settles n o r x g regs₀ regs =
    (m : Memory) (base psw : ℕ) (sys : List ℕ) → base % 2 ≡ 0 → x % 2 ≡ 0
    → Does r base psw regs₀ m regs m sys
    (settles_of n o (next_of true (address_of base x)) (machine_of regs₀ sys base x psw g) m)
