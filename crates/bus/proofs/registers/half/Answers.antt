-- `bus::registers::half` meets its contract: the drawing register of the address, VER, or 0.
-- Assumes nothing.
use mathlib.Core.Path.{◌≡◌, sym, ◌∙◌}
use Prim.Native.Nat.{◌<◌}
use native.Mathlib.Omega.{arith}
use lib.ListN.{get_or}
use Rattle.word.specs.Choose.{index_of}
use Rattle.bus.specs.Registers.{drawing_addresses}
use Rattle.bus.specs.Memory.{memory_of}
use Rattle.bus.proofs.VipPlaces.{register-load, read-drawing, read-version, read-quiet}
use Rattle.bus.proofs.registers.half.Goals as goal

pub returns-in-Some : goal.returns-in-Some
returns-in-Some c =
    let b = c in
    let a = b.args in
    let k = c.in-Some.ensures in
    let inside : index_of a.v drawing_addresses < 13 = rw k.0 at k.1 in
    λ rom wram vram pak.
    let m = memory_of rom wram vram pak a.regs.now in
    let w : c.from.result ≡ get_or a.regs.now (index_of a.v drawing_addresses) 0 = c.from.ensures ∙ rw k.0 in
    let small : c.from.result < 65536 = rw c.from.ensures (c.fits-regs c.in-Some.k) in
    record {
      means = w ∙ sym (register-load m a.v b.requires.0 b.requires.1 ∙ read-drawing a.v b.requires.1 m inside (rw w at small));
      fits = small;
    }

pub returns-in-None : goal.returns-in-None
returns-in-None c =
    let b = c in
    let a = b.args in
    λ rom wram vram pak.
    let m = memory_of rom wram vram pak a.regs.now in
    record {
      means = sym (register-load m a.v b.requires.0 b.requires.1 ∙ read-version a.v b.requires.1 m c.in-None.ensures c.if-v-eq391236.true);
      fits = omega arith;
    }

pub returns-in-None-2 : goal.returns-in-None-2
returns-in-None-2 c =
    let b = c in
    let a = b.args in
    λ rom wram vram pak.
    let m = memory_of rom wram vram pak a.regs.now in
    record {
      means = sym (register-load m a.v b.requires.0 b.requires.1 ∙ read-quiet a.v b.requires.1 m c.in-None-2.ensures c.if-v-eq391236.false);
      fits = omega arith;
    }
