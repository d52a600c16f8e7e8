-- `bus::pak::put_half` meets its contract: two bytes, the lower first.
-- Assumes nothing.
use mathlib.Core.Path.{sym, ◌∙◌}
use native.Mathlib.Omega.{arith}
use Rattle.bus.proofs.Places.{region-half, region-half-start}
use Rattle.bus.proofs.PakRam.{pak-half}
use Rattle.bus.proofs.pak.put_half.Goals as goal

pub put_byte-requires : goal.put_byte-requires
put_byte-requires c = (region-half-start _ ∙ c.requires.0, c.requires.1)

pub put_byte-requires-2 : goal.put_byte-requires-2
put_byte-requires-2 c =
    let b = c in
    (region-half _ 1 (omega arith) ∙ b.requires.0, rw c.put_byte.auto.pak b.requires.1)

pub returns : goal.returns
returns c =
    let b = c in
    λ rom wram vram regs.
    rw (c.put_byte-2.ensures rom wram vram regs, c.put_byte.ensures rom wram vram regs)
    (sym (pak-half _ _ b.requires.0 _))
