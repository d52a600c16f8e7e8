-- `undisturbed`: it is `answerable` of VRAM before the first drawing and VRAM before the second one. Between them only
-- images and the probe's ranges changed; the tables and the listed bytes are in neither. Assumes nothing.
use Prim.Native.Nat.{ℕ}
use mathlib.Core.List.{List, [], ◌∷◌}
use mathlib.Core.Path.{◌∙◌}
use native.Mathlib.Omega.{arith}
use Rattle.drawing_laws.specs.Demand3.{Each, SameByte, SameTables}
use Rattle.drawing_laws.specs.Drawn.{Call, drawn_by}
use Rattle.drawing_laws.specs.PixelBytes.{pixel_bytes_of}
use Rattle.drawing_laws.proofs.Answerable.{answerable}
use Rattle.drawing_laws.proofs.CallDrawn.{byte-kept}
use Rattle.drawing_laws.proofs.Images.{clear-outside}
use Rattle.drawing_laws.proofs.ListedAddresses.{Clear, listed-clear}
use Rattle.bus_probe.specs.Kept.{Write, all_written_of}
use Rattle.bus_probe.proofs.ProbeKept.{probe-kept}
use Rattle.bus_probe.proofs.Ranges.{past-maps}
use Rattle.drawing_overlay.specs.Undisturbed.{Outside, Undisturbed}

each_both : (P Q R : ℕ → Type 0) → ((a : ℕ) → P a → Q a → R a) → (xs : List ℕ) → Each P xs → Each Q xs → Each R xs
each_both P Q R f [] p q = tt
each_both P Q R f (x ∷ xs) p q = (f x p.0 q.0, each_both P Q R f xs p.1 q.1)

module _ (vram regs : List ℕ) (frame : ℕ) (one : Call) (writes : List Write) where
  second : List ℕ
  second = all_written_of (drawn_by vram regs frame one) writes

  -- a byte that is in no image and that the probe never writes
  same_byte : (a : ℕ) → Clear a → Outside a → SameByte vram second a
  unfolding second
  same_byte a clear out =
      probe-kept (drawn_by vram regs frame one) writes a out
      ∙ byte-kept vram regs frame one a (rw (clear-outside frame a clear))

  same_tables : SameTables vram second
  same_tables =
      record {
        worlds = λ a l h. same_byte a (omega arith) (past-maps a (omega arith));
        objects = λ a l h. same_byte a (omega arith) (past-maps a (omega arith));
      }

pub undisturbed : Undisturbed
unfolding second
undisturbed vram regs frame one other writes eye x y a b e c d g out =
    answerable vram (second vram regs frame one writes) regs frame one other eye x y a b e c d g
    (same_tables vram regs frame one writes)
    (each_both Clear Outside (SameByte vram (second vram regs frame one writes))
    (λ i clear o. same_byte vram regs frame one writes i clear o)
    (pixel_bytes_of vram regs eye x y) (listed-clear vram regs eye x y) out)
