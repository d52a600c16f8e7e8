-- `capi_saved::states::read_state`: misused, or what the call below gives.
use Rattle.bus.specs.Memory.{memory_of}
use Rattle.capi_saved.proofs.Saving.{read-misused, read_done}
use Rattle.capi_saved.proofs.states.read_state.Goals as goal

pub returns-then-misused-ne0 : goal.returns-then-misused-ne0
returns-then-misused-ne0 c =
    let a = c.args in
    let m = memory_of a.rom.now a.wram.now a.vram.now a.pak.now a.drawing.regs in
    read-misused a.processor m _ c.misuse-misused.ensures a.file.now c.if-misused-ne0.true

pub returns : goal.returns
returns c =
    let called = c in
    let tested = called in
    let a = tested.args in
    let m = memory_of a.rom.now a.wram.now a.vram.now a.pak.now a.drawing.regs in
    let given = called.processor_in-p.ensures in
    rw (c.processor_out.ensures, c.verdict_number.ensures)
    (read_done a.processor m _ tested.misuse-misused.ensures a.file.now _ given tested.if-misused-ne0.false _
    called.read-s.ensures)
