-- `bus::pak::read` meets its contract: a byte, a halfword, or two of these. Assumes nothing.
use mathlib.Core.List.{[]}
use mathlib.Core.Path.{ap, ◌∙◌}
use native.Mathlib.Omega.{arith}
use Rattle.word.specs.Width.{bytes_of}
use Rattle.bus.proofs.Places.{region-step}
use Rattle.bus.proofs.Halfwords.{room-above, aligned-word-reads}
use Rattle.bus.specs.Memory.{memory_of}
use Rattle.bus.proofs.pak.read.Goals as goal

pub half-requires-in-Word-2 : goal.half-requires-in-Word-2
half-requires-in-Word-2 c =
    let b = c in
    let room = room-above (memory_of [] [] [] [] []) _ b.args.address (ap bytes_of c.in-Word.is) b.requires.2 in
    (region-step b.args.address 2 room ∙ b.requires.0, b.requires.1)

pub overflow_mul-result : goal.overflow_mul-result
overflow_mul-result c = omega (arith, (c.half-in-Word-2.ensures [] [] [] []).fits)

pub overflow_add-result : goal.overflow_add-result
overflow_add-result c =
    omega (arith, (c.half-in-Word-2.ensures [] [] [] []).fits, (c.half-in-Word.ensures [] [] [] []).fits)

pub returns-in-Byte : goal.returns-in-Byte
returns-in-Byte c = rw c.in-Byte.is c.byte.ensures

pub returns-in-Half : goal.returns-in-Half
returns-in-Half c = rw c.in-Half.is c.half.ensures

pub returns-in-Word : goal.returns-in-Word
returns-in-Word c =
    let b = c in
    λ rom wram vram regs.
    aligned-word-reads _ _ b.args.address (ap bytes_of c.in-Word.is) b.requires.2 _ _
    (c.half-in-Word.ensures rom wram vram regs) (c.half-in-Word-2.ensures rom wram vram regs)
