-- `bus::registers::put_half` meets its contract: the register of the address keeps its width of the value.
-- Assumes nothing.
use mathlib.Core.Path.{◌≡◌, sym, ◌∙◌}
use Prim.Native.Nat.{◌-◌, ◌%◌, ◌^◌, ◌<◌}
use lib.ListN.{get_or}
use Rattle.word.specs.Choose.{index_of}
use Rattle.bus.specs.Registers.{drawing_addresses, width_of}
use Rattle.bus.specs.Memory.{memory_of}
use Rattle.bus.proofs.Limits.{limit, limits}
use Rattle.bus.proofs.VipPlaces.{register-store, write-drawing, write-nothing, kept_low}
use Rattle.bus.proofs.registers.put_half.Goals as goal

pub returns-in-Some : goal.returns-in-Some
returns-in-Some c =
    let b = c in
    let a = b.args in
    let v = a.v in
    let k = c.in-Some.ensures in
    let inside : index_of (v - v % 2) drawing_addresses < 13 = rw k.0 at k.1 in
    let wide : get_or limits c.in-Some.k 0 ≡ 2 ^ width_of (index_of (v - v % 2) drawing_addresses) = rw k.0 (limit _ inside) in
    λ rom wram vram pak.
    let m = memory_of rom wram vram pak a.regs.now in
    rw (c.below.ensures.0, wide, k.0)
    (sym (register-store m v b.requires a.value
    ∙ write-drawing m v (a.value % 65536) inside
    ∙ rw (kept_low (index_of (v - v % 2) drawing_addresses) a.value)))

pub returns-in_default : goal.returns-in_default
returns-in_default c =
    let b = c in
    let a = b.args in
    λ rom wram vram pak.
    let m = memory_of rom wram vram pak a.regs.now in
    sym (register-store m a.v b.requires a.value ∙ write-nothing m a.v (a.value % 65536) c.in_default.ensures)
