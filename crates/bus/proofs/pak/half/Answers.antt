-- `bus::pak::half` meets its contract: two bytes, the lower first.
-- Assumes nothing.
use mathlib.Core.Path.{◌∙◌}
use native.Mathlib.Omega.{arith}
use Rattle.bus.specs.Memory.{memory_of}
use mathlib.Core.List.{[]}
use Rattle.bus.proofs.Places.{region-half, region-half-start}
use Rattle.bus.proofs.Halfwords.{reads-half}
use Rattle.bus.proofs.pak.half.Goals as goal

pub byte-requires : goal.byte-requires
byte-requires c = (region-half-start c.args.address ∙ c.requires.0, c.requires.1)

pub byte-requires-2 : goal.byte-requires-2
byte-requires-2 c = (region-half c.args.address 1 (omega arith) ∙ c.requires.0, c.requires.1)

pub overflow_mul-result : goal.overflow_mul-result
overflow_mul-result c = omega (arith, (c.byte-2.ensures [] [] [] []).fits)

pub overflow_add-result : goal.overflow_add-result
overflow_add-result c = omega (arith, (c.byte-2.ensures [] [] [] []).fits, (c.byte.ensures [] [] [] []).fits)

pub returns : goal.returns
returns c =
    let a = c.args in
    λ rom wram vram regs.
    reads-half (memory_of rom wram vram a.pak.now regs) a.address c.byte.result c.byte-2.result
    (c.byte.ensures rom wram vram regs) (c.byte-2.ensures rom wram vram regs)
