-- `bus_probe::target` meets its contract, by the place of the address. Assumes nothing.
use Prim.Native.Nat.{ℕ}
use mathlib.Core.Bool.{Bool, true, false}
use mathlib.Core.Path.{◌≡◌, sym, ap, subst}
use Rattle.std.specs.Bool.{then_some}
use Rattle.std.specs.Prelude.{Option, MatchOption}
use Rattle.bus.specs.inner.LeadsTo.{LeadsTo}
use Rattle.bus.proofs.Led.{no_vram}
use Rattle.bus.proofs.VramIndex.{led-vram, led-elsewhere}
use Rattle.bus_probe.specs.Probe.{in_ranges_of, target_of}
use Rattle.bus_probe.proofs.target.Goals as goal

-- an index of VRAM, where it is in the ranges
inside : (b : Bool) (i t : ℕ) (r : Option ℕ) → r ≡ then_some b i → i ≡ t → b ≡ in_ranges_of t
    → MatchOption r (in_ranges_of t ≡ false) (λ j. (j ≡ t) × (in_ranges_of t ≡ true))
inside true i t r e f g = rw e (f, sym g)
inside false i t r e f g = rw e (sym g)

pub returns-in-Vram : goal.returns-in-Vram
unfolding target_of
returns-in-Vram c rom pak =
    let b = c in
    let e = rw b.aligned.ensures at (led-vram rom pak b.aligned.result _ (subst (LeadsTo b.aligned.result) b.in-Vram.is b.place_of.ensures)) in
    inside _ _ _ _ c.then_some.ensures e (rw e at b.in_ranges.ensures)

pub returns-in_default : goal.returns-in_default
unfolding target_of in_ranges_of
returns-in_default c rom pak =
    let b = c in
    let p = b.place_of.result in
    sym (ap in_ranges_of (rw b.aligned.ensures at (led-elsewhere rom pak b.aligned.result p (no_vram p c.in_default.not-Vram) b.place_of.ensures)))
