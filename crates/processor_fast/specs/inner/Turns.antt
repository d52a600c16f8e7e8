-- What one turn of the loop answers (paper 01, "Instructions"; document 000, "CPU Control"): where a common instruction
-- goes on, as processor_fast_compute has it; PSW above its flags, for one that goes on at the following instruction;
-- or that it is left to the step, with nothing changed.
use Rattle.std.specs.Prelude.{◌≡◌, ℕ, ◌+◌, ◌%◌, ◌^◌, false, List, Option}
use Rattle.word.specs.Choose.{pick}
use Rattle.bus.specs.Memory.{Memory}
use Rattle.processor_decode.specs.Format.{two_of}
use Rattle.processor_decode.specs.Opcode.{decode_of}
use Rattle.processor_lazy_flags.specs.declared.Flags.{Flags}
use Rattle.processor_interrupt.specs.Interrupt.{accepts_of}
use Rattle.processor_machine.specs.State.{Stepped, stepped_of}
use Rattle.processor_machine.specs.declared.Answer.TheVariants.{Ended}
use Rattle.processor_machine.specs.declared.Mode.TheVariants.{Running}
use Rattle.processor_fast_compute.specs.inner.Fast.{address_of, machine_of}
use Rattle.processor_fast_compute.specs.declared.Fast.{Fast}
use Rattle.processor_fast_compute.specs.declared.Fast.TheVariants.{Done, Masked, NotHere}
use Rattle.processor_step.specs.Step.{next_of, perform_of}
use Rattle.processor_decode.specs.declared.Instruction.{Instruction}

-- where these lines have no interrupt accepted with the first PSW, they have none with the second
abbrev pub Quiet : ℕ → ℕ → ℕ → Type 0
Quiet lines psw p = accepts_of lines psw Running ≡ false → accepts_of lines p Running ≡ false

-- an answer at index x, for an instruction that gives t: before it the registers were regs₀ and sys₀, the memory m₀
abbrev pub Turned :
    Fast → ℕ → ℕ → ℕ → ℕ → Flags → List ℕ → List ℕ → Memory → List ℕ → List ℕ → Memory → Stepped → Type 0
Turned (Done to addition value) lines base x psw g regs₀ sys₀ m₀ regs sys m t =
    (stepped_of Ended (machine_of regs sys base to psw (record { addition = addition; value = value })) m ≡ t)
    × (to % 2 ≡ 0)
Turned (Masked p) lines base x psw g regs₀ sys₀ m₀ regs sys m t =
    (stepped_of Ended (machine_of regs sys base ((x + 2) % 2 ^ 32) p g) m ≡ t) × Quiet lines psw p
Turned NotHere lines base x psw g regs₀ sys₀ m₀ regs sys m t = (regs ≡ regs₀) × (sys ≡ sys₀) × (m ≡ m₀)

-- the answer for what was decoded of one halfword, wherever it stands and for every memory, which stays
abbrev pub Controls : ℕ → Option Instruction → Fast → ℕ → ℕ → Flags → List ℕ → List ℕ → List ℕ → List ℕ → Type 0
Controls lines d r x psw g regs₀ sys₀ regs sys =
    (m : Memory) (base : ℕ) → x % 2 ≡ 0
    → Turned r lines base x psw g regs₀ sys₀ m regs sys m
    (perform_of d (next_of false (address_of base x)) (machine_of regs₀ sys₀ base x psw g) m)

-- the answer for the halfwords f and s
abbrev pub Turns :
    ℕ → ℕ → ℕ → ℕ → Fast → ℕ → ℕ → Flags → List ℕ → List ℕ → Memory → List ℕ → List ℕ → Memory → Type 0
Turns lines base f s r x psw g regs₀ sys₀ m₀ regs sys m =
    base % 2 ≡ 0 → x % 2 ≡ 0
    → Turned r lines base x psw g regs₀ sys₀ m₀ regs sys m
    (perform_of (decode_of f (pick (two_of f) s 0)) (next_of (two_of f) (address_of base x))
    (machine_of regs₀ sys₀ base x psw g) m₀)
