-- `bus::code::code_at`: by the place of PC.
use mathlib.Core.Path.{subst}
use native.Mathlib.Nat.{mod-le}
use native.Mathlib.Omega.{arith}
use Rattle.bus.specs.inner.LeadsTo.{LeadsTo}
use Rattle.bus.proofs.Fetches.{rom-room, rom-stands, wram-stands}
use Rattle.bus.proofs.code.code_at.Goals as goal

pub overflow_cast-n : goal.overflow_cast-n
overflow_cast-n c =
    let b = c in
    let room = rom-room b.args.rom b.requires in
    omega (arith, room.most)

pub nonzero_rem-result : goal.nonzero_rem-result
nonzero_rem-result c =
    let b = c in
    let room = rom-room b.args.rom b.requires in
    omega (arith, room.least)

pub overflow_sub-result : goal.overflow_sub-result
overflow_sub-result c =
    let a = c.args in
    omega (arith, mod-le a.pc a.rom)

pub overflow_sub-result-in-Rom : goal.overflow_sub-result-in-Rom
overflow_sub-result-in-Rom c =
    let b = c in
    let room = rom-room b.args.rom b.requires in
    omega (arith, room.least)

pub returns-in-Rom : goal.returns-in-Rom
returns-in-Rom c =
    let b = c in
    let a = b.args in
    let led = subst (LeadsTo a.pc) c.in-Rom.is c.place_of.ensures in
    rom-stands a.rom a.pc b.requires (omega arith) led.0

pub returns-in-Wram : goal.returns-in-Wram
returns-in-Wram c =
    let a = c.args in
    let led = subst (LeadsTo a.pc) c.in-Wram.is c.place_of.ensures in
    wram-stands a.rom a.pc (omega arith) led.0
