use Prim.Native.Nat.{◌-◌}
use mathlib.Core.Path.{◌≡◌}
use Rattle.bus.specs.Registers.{within_from, drawing_ok}
use Rattle.bus.proofs.refusals.drawing_ok.Given as goal

abbrev pub invariant-loop-k : goal.invariant-loop-k
invariant-loop-k l = drawing_ok l.regs ≡ within_from l.regs l.k (13 - l.k)
