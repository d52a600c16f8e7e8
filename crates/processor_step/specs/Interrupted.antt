-- The step that accepts an interrupt (paper 02, W6).
use Rattle.std.specs.Prelude.{ℕ, Bool, slice_index}
use Rattle.bus.specs.TimerLines.{lines_place}
use Rattle.bus.specs.Memory.{Memory}
use Rattle.processor_machine.specs.State.{State, Stepped, stepped_of}
use Rattle.processor_machine.specs.declared.Answer.TheVariants.{Interrupted}
use Rattle.processor_interrupt.specs.Interrupt.{level_of, accepts_of, interrupted_of}

-- the five request lines, bit n that of level n
abbrev pub lines_in : Memory → ℕ
lines_in m = slice_index m.regs lines_place

-- whether an interrupt is accepted
abbrev pub accepts_in : State → Memory → Bool
accepts_in s m = accepts_of (lines_in m) s.psw s.mode

-- the step that accepts one: memory, the lines and the timer stay
abbrev pub interrupt_step_of : State → Memory → Stepped
interrupt_step_of s m =
    let level = level_of (lines_in m) in
    stepped_of (Interrupted level) (interrupted_of level s) m
