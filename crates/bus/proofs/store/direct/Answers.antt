-- `bus::store::direct` meets its contract: by place, a number of WRAM or of VRAM, or nothing. Assumes nothing.
use Rattle.word.specs.Width.{bytes_of}
use Rattle.bus.proofs.Sizes.{width_ok}
use Rattle.bus.proofs.ByPlace.{led, wram-room, vram-room, wram-puts, vram-puts}
use Rattle.bus.proofs.store.direct.Goals as goal

pub put_number-requires : goal.put_number-requires
put_number-requires c =
    let b = c in
    let l = led _ _ c.place_of.result _ c.aligned.ensures
    c.in-Wram.is c.place_of.ensures in
    rw b.requires.0 (wram-room (bytes_of b.args.width) b.args.address (width_ok b.args.width) _ l)

pub put_number-requires-in-Vram : goal.put_number-requires-in-Vram
put_number-requires-in-Vram c =
    let b = c in
    let l = led _ _ c.place_of.result _ c.aligned.ensures
    c.in-Vram.is c.place_of.ensures in
    rw b.requires.1 (vram-room (bytes_of b.args.width) b.args.address (width_ok b.args.width) _ l)

pub returns-in-Wram : goal.returns-in-Wram
returns-in-Wram c =
    let b = c in
    let l = led _ _ c.place_of.result _
    c.aligned.ensures
    c.in-Wram.is c.place_of.ensures in
    λ rom pak regs. rw c.put_number.ensures (wram-puts (bytes_of b.args.width) b.args.address (width_ok b.args.width) _ _ b.args.value l)

pub returns-in-Vram : goal.returns-in-Vram
returns-in-Vram c =
    let b = c in
    let l = led _ _ c.place_of.result _
    c.aligned.ensures
    c.in-Vram.is c.place_of.ensures in
    λ rom pak regs. rw c.put_number-in-Vram.ensures (vram-puts (bytes_of b.args.width) b.args.address (width_ok b.args.width) _ _ b.args.value l)
