-- `bus::map::wrapped` meets its contract: the length is a power of two, and the mask is the remainder.
-- Assumes nothing.
use mathlib.Core.Path.{sym, subst}
use Prim.Native.Nat.{ℕ, ◌<◌}
use native.Mathlib.Nat.{mod-lt}
use Rattle.bus.proofs.Power.{pak-power, power-mask}
use Rattle.bus.proofs.map.wrapped.Goals as goal

pub returns : goal.returns
returns c =
    let n = c.args.length in
    let a = c.args.address in
    let e = power-mask 0 n (pak-power n c.requires.0 c.requires.1) a in
    (e, subst (λ (k : ℕ). k < n) (sym e) (mod-lt a c.requires.1))
