-- `capi_saved::states::write_state_2`: misused, or what the call below gives.
use mathlib.Core.Path.{◌∙◌}
use Rattle.bus.specs.Memory.{memory_of}
use Rattle.saved_layout.specs.declared.Form.TheVariants.{Two}
use Rattle.capi_saved.proofs.Saving.{write-misused, write_done}
use Rattle.capi_saved.proofs.states.write_state_2.Goals as goal

pub returns-then-misused-ne0 : goal.returns-then-misused-ne0
returns-then-misused-ne0 c =
    let a = c.args in
    let m = memory_of a.rom.now a.wram.now a.vram.now a.pak.now a.drawing.regs in
    let both = write-misused a.processor m _ c.misuse-misused.ensures a.output.now Two c.if-misused-ne0.true in
    record { refusal = both.0; output = both.1 }

pub returns : goal.returns
returns c =
    let called = c in
    let tested = called in
    let a = tested.args in
    let m = memory_of a.rom.now a.wram.now a.vram.now a.pak.now a.drawing.regs in
    let given = called.processor_in-p.ensures in
    let done = called.write_2.ensures in
    let w =
    write_done a.processor m _ tested.misuse-misused.ensures a.output.now _ given tested.if-misused-ne0.false Two
    _ _ done.verdict done.output in
    record {
      refusal = c.verdict_number.ensures ∙ w.0;
      output = w.1;
    }
