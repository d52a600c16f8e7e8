use Rattle.std.proofs.Common.{◌≡◌, ◌-◌, ◌%◌, ◌≤◌, get_or}
use Rattle.bus.specs.Memories.{held_by, SameLoans}
use Rattle.bus.specs.TimerLines.{lines_place}
use Rattle.processor_machine.specs.State.{state_of}
use Rattle.processor_machine.specs.declared.Mode.TheVariants.{Running}
use Rattle.processor_fast_compute.specs.inner.Fast.{machine_of}
use Rattle.processor_fast.specs.inner.Leads.{Leads}
use Rattle.processor_fast.specs.inner.Turns.{Quiet}
use Rattle.processor_fast.proofs.stretch.inside.Given as goal

abbrev pub invariant-loop-left : goal.invariant-loop-left
invariant-loop-left l =
    Leads (state_of l.initial.regs l.initial.sys l.pc l.psw Running) (held_by l.initial.memories) (l.budget - l.left)
    (machine_of l.regs l.sys l.base l.x l.high l.flags) (held_by l.memories)
    × (l.left ≤ l.budget) × (l.x % 2 ≡ 0) × SameLoans l.initial.memories l.memories
    × (l.memories.device.now ≡ l.initial.memories.device.now)
    × Quiet (get_or l.initial.memories.device.now lines_place 0) l.psw l.high
    × (l.memories.pak.now ≡ l.initial.memories.pak.now)

abbrev pub decreases-loop-left : goal.decreases-loop-left
decreases-loop-left l = l.left
