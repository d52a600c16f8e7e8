use mathlib.Core.Path.{◌≡◌}
use Prim.Native.Nat.{◌-◌}
use Rattle.bus.specs.Memories.{held_by, SameLoans}
use Rattle.processor_machine.specs.State.{state_of}
use Rattle.processor.specs.inner.Follows.{Follows}
use Rattle.processor.proofs.run.run.Given as goal

abbrev pub invariant-loop-count : goal.invariant-loop-count
invariant-loop-count l =
    Follows l.budget (state_of l.initial.regs l.initial.sys l.initial.pc l.initial.psw l.initial.mode) (held_by l.initial.memories) l.count
    (state_of l.regs l.sys l.pc l.psw l.mode) (held_by l.memories)
    × SameLoans l.initial.memories l.memories

abbrev pub decreases-loop-count : goal.decreases-loop-count
decreases-loop-count l = l.budget - l.count
