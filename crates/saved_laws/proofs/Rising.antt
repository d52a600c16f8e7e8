-- `replaced-rising`: the statement of specs/Rising. Each kind is put behind smaller ones. Assumes nothing.
use Prim.Native.Nat.{ℕ, suc, ◌≤◌}
use mathlib.Core.Bool.{Bool, true, false}
use mathlib.Core.List.{List, [], ◌∷◌, ◌++◌}
use native.Mathlib.Omega.{arith}
use Rattle.saved_salvage.specs.Listed.{with_kind, replaced_of}
use Rattle.saved_laws.specs.Rising.{Rising, ReplacedRising}

higher : (low high : ℕ) (ns : List ℕ) → Rising low high ns → Rising low (suc high) ns
higher low high [] r = tt
higher low high (n ∷ ns) r = (r.0, (omega (arith, r.1.0), higher (suc n) high ns r.1.1))

behind : (low high : ℕ) (ns : List ℕ) → low ≤ suc high → Rising low high ns → Rising low (suc high) (ns ++ (suc high ∷ []))
behind low high [] h r = (h, (omega arith, tt))
behind low high (n ∷ ns) h r =
    (r.0, (omega (arith, r.1.0), behind (suc n) high ns (omega (arith, r.1.0)) r.1.1))

with-kind : (ns : List ℕ) (high : ℕ) (kept : Bool) → Rising 1 high ns → Rising 1 (suc high) (with_kind ns (suc high) kept)
with-kind ns high true r = higher 1 high ns r
with-kind ns high false r = behind 1 high ns (omega arith) r

pub replaced-rising : ReplacedRising
unfolding replaced_of
replaced-rising k =
    with-kind _ 5 k.hardware
    (with-kind _ 4 k.pak
    (with-kind _ 3 k.vram (with-kind _ 2 k.wram (with-kind _ 1 k.drawing (with-kind [] 0 k.processor tt)))))
