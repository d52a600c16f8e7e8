-- Strips one after the other. Assumes nothing.
use Prim.Native.Nat.{ℕ, ◌+◌}
use native.Mathlib.Numerals.{add-one}
use mathlib.Core.Path.{◌≡◌}
use mathlib.Core.List.{List}
use Rattle.drawing_pixel.specs.Strip.{strip_of, strips_of}

pub strips-more : (vram regs : List ℕ) (frame n : ℕ) → strip_of (strips_of vram regs frame n) regs frame n ≡ strips_of vram regs frame (n + 1)
unfolding strips_of
strips-more vram regs frame n = rw (add-one n)
