-- `bus::load::direct` meets its contract: by place, a number of WRAM, of VRAM or of ROM, or none of these.
-- Assumes nothing.
use lib.ListN.{length}
use Rattle.word.specs.Width.{bytes_of}
use Rattle.bus.proofs.Sizes.{width_ok}
use Rattle.bus.proofs.Power.{rom-power, rom-as-pak, power_pos}
use Rattle.bus.proofs.ByPlace.{led, wram-room, vram-room, rom-room, wram-reads, vram-reads, rom-reads}
use Rattle.bus.proofs.load.direct.Goals as goal

pub number_at-requires : goal.number_at-requires
number_at-requires c =
    let b = c in
    let l = led _ _ c.place_of.result _ c.aligned.ensures c.in-Wram.is
    c.place_of.ensures in
    rw b.requires.1 (wram-room (bytes_of b.args.width) b.args.address (width_ok b.args.width) _ l)

pub number_at-requires-in-Vram : goal.number_at-requires-in-Vram
number_at-requires-in-Vram c =
    let b = c in
    let l = led _ _ c.place_of.result _ c.aligned.ensures c.in-Vram.is
    c.place_of.ensures in
    rw b.requires.2 (vram-room (bytes_of b.args.width) b.args.address (width_ok b.args.width) _ l)

pub wrapped-requires : goal.wrapped-requires
wrapped-requires c =
    let b = c in
    let n = length b.args.rom.now in
    (rom-as-pak n b.requires.0, power_pos 2 n (rom-power n b.requires.0))

pub number_at-requires-in-Rom : goal.number_at-requires-in-Rom
number_at-requires-in-Rom c =
    let b = c in
    let l = led _ _ c.place_of.result _ c.aligned.ensures
    c.in-Rom.is
    c.place_of.ensures in
    rom-room (bytes_of b.args.width) b.args.address (width_ok b.args.width) (length b.args.rom.now) _ b.requires.0 (rw l.1 at c.wrapped.ensures.0)

pub returns-in-Wram : goal.returns-in-Wram
returns-in-Wram c =
    let b = c in
    let l = led _ _ c.place_of.result _ c.aligned.ensures
    c.in-Wram.is
    c.place_of.ensures in
    λ pak regs. wram-reads (bytes_of b.args.width) b.args.address (width_ok b.args.width) _ _ _ l c.number_at.ensures.0 c.number_at.ensures.1

pub returns-in-Vram : goal.returns-in-Vram
returns-in-Vram c =
    let b = c in
    let l = led _ _ c.place_of.result _ c.aligned.ensures
    c.in-Vram.is
    c.place_of.ensures in
    λ pak regs. vram-reads (bytes_of b.args.width) b.args.address (width_ok b.args.width) _ _ _ l c.number_at-in-Vram.ensures.0 c.number_at-in-Vram.ensures.1

pub returns-in-Rom : goal.returns-in-Rom
returns-in-Rom c =
    let b = c in
    let l = led _ _ c.place_of.result _ c.aligned.ensures
    c.in-Rom.is c.place_of.ensures in
    λ pak regs.
    rom-reads (bytes_of b.args.width) b.args.address (width_ok b.args.width) _ _ _ _ b.requires.0 l c.wrapped.ensures.0 c.number_at-in-Rom.ensures.0
    c.number_at-in-Rom.ensures.1
