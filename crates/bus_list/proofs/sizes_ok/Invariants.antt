use Prim.Native.Nat.{◌-◌}
use mathlib.Core.Path.{◌≡◌}
use Rattle.bus_list.specs.List.{sizes_ok}
use Rattle.bus_list.proofs.sizes_ok.Given as goal

abbrev pub invariant-loop-k : goal.invariant-loop-k
invariant-loop-k l = sizes_ok l.n 0 l.list ≡ sizes_ok (l.n - l.k) l.k l.list
