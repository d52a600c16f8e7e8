-- `bus_calls::write` meets its contract: the fast path, or an access that borrows the device registers. Assumes nothing.
use mathlib.Core.List.{[]}
use mathlib.Core.Path.{ap, ◌∙◌}
use Rattle.word.specs.Width.{bytes_of}
use Rattle.bus.specs.Memory.{Memory, store_of}
use Rattle.bus.proofs.Devices.{device-length}
use Rattle.bus.proofs.ByPlace.{stored-not}
use Rattle.bus_calls.proofs.Lent.{store-lent}
use Rattle.bus_calls.proofs.write.Goals as goal

pub elsewhere-requires : goal.elsewhere-requires
elsewhere-requires c =
    let b = c in
    (b.requires.2, (stored-not _ _ _ _ _ _ c.if-direct.false (c.direct.ensures [] [] [])).1)

pub returns : goal.returns
returns c =
    let d = c in
    let a = d.args in
    λ rom.
    store-lent _ _ _ _ c.device_of-lent.ensures a.value (device-length _ _) _
    (c.elsewhere.ensures rom _ _
    ∙ ap (λ (x : Memory). store_of x (bytes_of a.width) a.address a.value)
    (stored-not _ _ _ _ _ _ d.if-direct.false (d.direct.ensures rom _ _)).0) _
    c.drawing_in-regs.ensures _ c.hardware_in.ensures
