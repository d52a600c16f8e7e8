-- `bus::pak::put-byte` meets its contract: a byte at the address mod the length, and nothing where there is none.
-- Assumes nothing.
use mathlib.Core.Path.{◌≡◌, sym, ◌∙◌}
use borrow.Author.Rules.{rules}
use Prim.Native.Nat.{◌<◌}
use native.Mathlib.Omega.{arith}
use Rattle.bus.specs.Memory.{memory_of}
use lib.ListN.{length}
use Rattle.bus.proofs.PakRam.{pak-put, pak-put-empty}
use Rattle.bus.proofs.pak.put_byte.Goals as goal

pub returns-then-is_empty : goal.returns-then-is_empty
returns-then-is_empty c =
    let a = c.args in
    let none : length a.pak.now ≡ 0 = search rules in
    λ rom wram vram regs.
    sym (pak-put-empty (memory_of rom wram vram a.pak.now regs) a.address c.requires.0 a.value none)

pub returns : goal.returns
returns c =
    let a = c.args in
    let filled : 0 < length a.pak.now = grind arith in
    λ rom wram vram regs.
    sym (pak-put (memory_of rom wram vram a.pak.now regs) a.address c.requires.0
    a.value c.requires.1 filled ∙ rw (← c.wrapped-i.ensures.0))
