-- `bus::pak::byte` meets its contract: a byte at the address mod the length, and 0 where there is none.
-- Assumes nothing.
use mathlib.Core.Path.{◌≡◌, sym, ◌∙◌}
use borrow.Author.Rules.{rules}
use Prim.Native.Nat.{◌<◌}
use native.Mathlib.Omega.{arith}
use Rattle.bus.specs.Memory.{memory_of}
use lib.ListN.{length}
use Rattle.bus.proofs.PakRam.{pak-read, pak-read-empty}
use Rattle.bus.proofs.pak.byte.Goals as goal

pub returns-then-is_empty : goal.returns-then-is_empty
returns-then-is_empty c =
    let a = c.args in
    let none : length a.pak.now ≡ 0 = search rules in
    λ rom wram vram regs.
    record {
      means = sym (pak-read-empty (memory_of rom wram vram a.pak.now regs) a.address c.requires.0 none);
      fits = omega arith;
    }

pub returns : goal.returns
returns c =
    let a = c.args in
    let filled : 0 < length a.pak.now = grind arith in
    λ rom wram vram regs.
    record {
      means =
          c.byte_at.ensures.0
          ∙ rw c.wrapped.ensures.0
          (sym (pak-read (memory_of rom wram vram a.pak.now regs) a.address
          c.requires.0 c.requires.1 filled));
      fits = c.byte_at.ensures.1;
    }
