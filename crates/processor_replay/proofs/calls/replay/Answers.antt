-- `processor_replay::calls::replay`: refused as the definition says, else what the replay of the records promises. Assumes nothing.
use Rattle.std.proofs.Common.{◌≡◌, rules}
use Rattle.bus.specs.Memory.{memory_of}
use Rattle.processor_replay.proofs.Checked.{replay-refused, replay-odd, replay-done, accepted-memories}
use Rattle.processor_replay.proofs.calls.replay.Goals as goal

pub returns-then-trace-ne0 : goal.returns-then-trace-ne0
returns-then-trace-ne0 c =
    let a = c.args in
    let m = memory_of a.rom.now a.wram.now a.vram.now a.pak.now a.drawing.regs in
    replay-odd a.processor m a.trace.now _ c.verdict.ensures c.in-Ok.is c.if-trace-ne0.true

pub invariant_of-memories : goal.invariant_of-memories
invariant_of-memories c =
    let a = c.args in
    let m = memory_of a.rom.now a.wram.now a.vram.now a.pak.now a.drawing.regs in
    record { lengths = accepted-memories a.processor m _ c.verdict.ensures c.in-Ok.is }

pub returns-in-Err : goal.returns-in-Err
returns-in-Err c =
    let a = c.args in
    let m = memory_of a.rom.now a.wram.now a.vram.now a.pak.now a.drawing.regs in
    replay-refused a.processor m a.trace.now _ c.verdict.ensures _ c.in-Err.is

pub returns-else-trace-ne0 : goal.returns-else-trace-ne0
returns-else-trace-ne0 c =
    let a = c.args in
    let before = memory_of a.rom.now a.wram.now a.vram.now a.pak.now a.drawing.regs in
    let m = c.replay-f.new.memories in
    let w : c.wram-1.given.0 ≡ m.wram.now = search rules in
    let v : c.vram-1.given.0 ≡ m.vram.now = search rules in
    let k : c.pak-1.given.0 ≡ m.pak.now = search rules in
    let d : c.device-in-Ok-1.given.0 ≡ m.device.now = search rules in
    rw (c.drawing_in-registers.ensures, c.joined-processor.ensures, w, v, k, d)
    (rw c.replay-f.ensures.same.0 at (replay-done a.processor before a.trace.now _
    c.verdict.ensures c.in-Ok.is
    c.if-trace-ne0.false _ _
    c.system-sys.ensures
    c.device_of-device.ensures _
    c.replay-f.ensures.done))
