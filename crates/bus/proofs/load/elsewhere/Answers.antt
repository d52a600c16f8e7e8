-- `bus::load::elsewhere` meets its contract: by place, pak RAM, a register of the VIP, one of the timer, or 0.
-- Assumes nothing.
use mathlib.Core.Path.{refl}
use Rattle.word.specs.Width.{bytes_of}
use Rattle.bus.proofs.Sizes.{width_ok}
use Rattle.bus.proofs.ByPlace.{led, pak-at, register-at, pak-reads, register-reads, port-reads-at, quiet-reads}
use Rattle.bus.proofs.load.elsewhere.Goals as goal

pub read-requires : goal.read-requires
read-requires c =
    let b = c in
    let l = led _ _ c.place_of.result _ c.aligned.ensures c.in-Pak.is
    c.place_of.ensures in
    let at = pak-at (bytes_of b.args.width) b.args.address (width_ok b.args.width) _ l in
    (at.0, b.requires.0, at.1)

pub read-requires-in-Register : goal.read-requires-in-Register
read-requires-in-Register c =
    let b = c in
    let l = led _ _ c.place_of.result _ c.aligned.ensures c.in-Register.is
    c.place_of.ensures in
    let at = register-at (bytes_of b.args.width) b.args.address (width_ok b.args.width) _ l in
    at

pub returns-in-Pak : goal.returns-in-Pak
returns-in-Pak c =
    let b = c in
    let l = led _ _ c.place_of.result _ c.aligned.ensures
    c.in-Pak.is
    c.place_of.ensures in
    λ rom wram vram. pak-reads (bytes_of b.args.width) b.args.address (width_ok b.args.width) _ _ _ l (c.read.ensures rom wram vram _)

pub returns-in-Register : goal.returns-in-Register
returns-in-Register c =
    let b = c in
    let l = led _ _ c.place_of.result _ c.aligned.ensures
    c.in-Register.is
    c.place_of.ensures in
    λ rom wram vram.
    register-reads (bytes_of b.args.width) b.args.address (width_ok b.args.width) _ _ _ l (register-at (bytes_of b.args.width) b.args.address (width_ok b.args.width) _ l).1
    (c.read-in-Register.ensures rom wram vram _)

pub returns-in-Port : goal.returns-in-Port
returns-in-Port c =
    let b = c in
    let l = led _ _ c.place_of.result _ c.aligned.ensures
    c.in-Port.is
    c.place_of.ensures in
    λ rom wram vram. port-reads-at (bytes_of b.args.width) b.args.address (width_ok b.args.width) _ _ _ l c.port.ensures.0 c.port.ensures.1

pub returns-in_default : goal.returns-in_default
returns-in_default c =
    let b = c in
    let l = led _ _ c.place_of.result c.place_of.result c.aligned.ensures refl c.place_of.ensures in
    λ rom wram vram. quiet-reads _ (bytes_of b.args.width) b.args.address (width_ok b.args.width) c.place_of.result l b.requires.1 c.in_default.not-Pak c.in_default.not-Register c.in_default.not-Port
