-- `bus::pak::write` meets its contract: a byte, a halfword, or two of these. Assumes nothing.
use mathlib.Core.List.{[]}
use mathlib.Core.Path.{ap, ◌∙◌}
use Rattle.word.specs.Width.{bytes_of}
use Rattle.bus.proofs.Places.{region-step}
use Rattle.bus.proofs.Halfwords.{room-above, aligned-word-store}
use Rattle.bus.specs.Memory.{memory_of}
use Rattle.bus.proofs.pak.write.Goals as goal

pub put_half-requires-in-Word-2 : goal.put_half-requires-in-Word-2
put_half-requires-in-Word-2 c =
    let b = c in
    let room = room-above (memory_of [] [] [] [] []) _ b.args.address (ap bytes_of c.in-Word.is) b.requires.2 in
    (region-step b.args.address 2 room ∙ b.requires.0, rw c.put_half-in-Word.auto.pak b.requires.1)

pub returns-in-Word : goal.returns-in-Word
returns-in-Word c =
    let b = c in
    λ rom wram vram regs.
    rw (c.put_half-in-Word-2.ensures rom wram vram regs, c.put_half-in-Word.ensures rom wram vram regs)
    (aligned-word-store _ _ b.args.address (ap bytes_of c.in-Word.is) b.requires.2 _)
