use Rattle.processor_replay.proofs.Sums.{Summed}
use Rattle.processor_replay.proofs.records.sum.Given as goal

abbrev pub invariant-loop-i : goal.invariant-loop-i
invariant-loop-i l = Summed l.regs l.i l.s
