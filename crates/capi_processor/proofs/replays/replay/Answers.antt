-- `capi_processor::replays::replay`: misused, or what the call below gives.
use Rattle.bus.specs.Memory.{memory_of}
use Rattle.capi_processor.proofs.Boundary.{replay-misused, replay-done}
use Rattle.capi_processor.proofs.replays.replay.Goals as goal

pub returns-then-misused-ne0 : goal.returns-then-misused-ne0
returns-then-misused-ne0 c =
    let a = c.args in
    let m = memory_of a.rom.now a.wram.now a.vram.now a.pak.now a.drawing.regs in
    replay-misused a.processor m _ c.misuse-misused.ensures a.trace.now c.if-misused-ne0.true

pub returns : goal.returns
returns c =
    let called = c in
    let tested = called in
    let a = tested.args in
    let m = memory_of a.rom.now a.wram.now a.vram.now a.pak.now a.drawing.regs in
    let given = called.processor_in-p.ensures in
    rw (c.processor_out.ensures, c.end_word.ensures, c.end_number.ensures)
    (rw c.end_refusal.ensures
    (replay-done a.processor m _ tested.misuse-misused.ensures _ given tested.if-misused-ne0.false a.trace.now _
    called.replay-s.ensures))
