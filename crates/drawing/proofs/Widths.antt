-- What accepted registers are, from the bus's law about their widths. Assumes nothing.
use Rattle.std.specs.Prelude.{Ok}
use Prim.Native.Nat.{ℕ, ◌<◌}
use native.Mathlib.Omega.{arith}
use mathlib.Core.Path.{◌≡◌}
use mathlib.Core.Bool.{true}
use mathlib.Core.List.{List}
use borrow.Author.Tests.{lt-ltb}
use Rattle.std.proofs.lemmas.Grind.{common_steps}
use Rattle.bus.specs.Registers.{drawing_ok, spt_of, bkcol_of}
use Rattle.bus.proofs.Kept.{drawing-within}
use Rattle.drawing.specs.Calls.{frame_verdict_of}

pub spt-within : (d : List ℕ) → drawing_ok d ≡ true → (k : ℕ) → k < 4 → spt_of d k < 1024
unfolding spt_of
spt-within d h k l = simp (lt-ltb k 4 l) at (drawing-within d h k (omega arith))

pub bkcol-within : (d : List ℕ) → drawing_ok d ≡ true → bkcol_of d < 4
unfolding bkcol_of
bkcol-within d h = drawing-within d h 12 (omega arith)

-- those of a drawing call that is not refused for 3, 5 or 7
pub drawable : (v d : List ℕ) (frame : ℕ) → Ok tt ≡ frame_verdict_of v d frame
    → ((k : ℕ) → k < 4 → spt_of d k < 1024) × (bkcol_of d < 4)
unfolding frame_verdict_of
drawable v d frame e =
    let r : drawing_ok d ≡ true = grind (arith, common_steps) in
    (spt-within d r, bkcol-within d r)
