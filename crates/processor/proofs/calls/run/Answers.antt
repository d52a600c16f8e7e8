-- `processor::calls::run`: refused as the definition says, else the inner call's promise.
use mathlib.Core.Path.{◌≡◌, sym, ◌∙◌}
use Rattle.std.proofs.Common.{rules}
use Rattle.processor.proofs.Checked.{run-accepted}
use Rattle.processor.proofs.Lengths.{lengths-of-accepted}
use Rattle.processor.specs.Calls.{checked_run_of}
use Rattle.processor.proofs.calls.run.Goals as goal

pub invariant_of-memories : goal.invariant_of-memories
invariant_of-memories c = record { lengths = lengths-of-accepted _ _ _ _ _ _ _ _ _ (sym c.acceptance.ensures ∙ c.in-Ok.is) }

pub returns-in-Err : goal.returns-in-Err
unfolding checked_run_of
returns-in-Err c = rw (
  ← c.device_of-device.ensures,
  ← c.system-sys.ensures,
  ← c.acceptance.ensures,
  c.in-Err.is,
)

pub returns-in-Ok : goal.returns-in-Ok
returns-in-Ok c =
    let a = c.args in
    let m = c.run-f.new.memories in
    let w : c.wram-1.given.0 ≡ m.wram.now = search rules in
    let v : c.vram-1.given.0 ≡ m.vram.now = search rules in
    let k : c.pak-1.given.0 ≡ m.pak.now = search rules in
    let d : c.device-in-Ok-2-1.given.0 ≡ m.device.now = search rules in
    rw (c.drawing_in-registers.ensures, c.joined-processor.ensures, w, v, k, d)
    (rw c.run-f.ensures.same.0 at (run-accepted a.processor _ _ _ _ c.system-sys.ensures
    c.device_of-device.ensures
    c.acceptance.ensures
    c.in-Ok.is _ _
    c.run-f.ensures.done))
