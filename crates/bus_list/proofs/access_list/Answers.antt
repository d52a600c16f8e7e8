-- `bus_list::access_list`: refused as the definition says, else every access with the device registers borrowed.
-- Assumes nothing.
use mathlib.Core.Path.{refl, sym, ◌∙◌}
use Rattle.std.specs.Prelude.{Ok}
use Rattle.bus.specs.TimerLines.{device_of}
use Rattle.bus.specs.Memory.{memory_of}
use Rattle.bus.proofs.Accepted.{accepted-lengths}
use Rattle.bus.proofs.Devices.{device-length}
use Rattle.bus_list.specs.Calls.{list_verdict_at}
use Rattle.bus_list.proofs.Tested.{list-lent}
use Rattle.bus_list.proofs.access_list.Goals as goal

pub accesses-requires : goal.accesses-requires
accesses-requires c =
    let b = c in (
      accepted-lengths _ _ _ _ _ (sym b.call_verdict.ensures ∙ b.in_ok-call_verdict.was),
      sym b.list_ok.ensures ∙ c.if-not-list_ok.false,
    )

pub returns-clause-made : goal.returns-clause-made
unfolding list_verdict_at
returns-clause-made c =
    let b = c in
    let a = b.args in
    let m = memory_of a.rom.now a.wram.now a.vram.now a.pak.now (device_of a.drawing.regs a.hardware) in
    let lent = b.device_of-lent in
    let accepted = sym b.call_verdict.ensures ∙ b.in_ok-call_verdict.was in
    let listed = sym b.list_ok.ensures ∙ b.if-not-list_ok.false in
    list-lent m a.list.now (Ok tt) (rw (accepted, listed)) refl (device-length _ _) lent.result lent.ensures _
    c.accesses.ensures _ _ c.drawing_in-regs.ensures c.hardware_in.ensures
