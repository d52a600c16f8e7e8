use Rattle.std.proofs.Common.{◌≡◌}
use Rattle.bus.specs.Memories.{held_by, SameLoans}
use Rattle.processor_machine.specs.State.{state_of}
use Rattle.processor_replay.proofs.Along.{Along}
use Rattle.processor_replay.proofs.records.replay.Given as goal

abbrev pub invariant-loop-k : goal.invariant-loop-k
invariant-loop-k l =
    Along l.n l.trace (state_of l.initial.regs l.initial.sys l.initial.pc l.initial.psw l.initial.mode) (held_by l.initial.memories) l.k
    (state_of l.regs l.sys l.pc l.psw l.mode) (held_by l.memories)
    × SameLoans l.initial.memories l.memories
