-- `bus::store::elsewhere` meets its contract: by place, pak RAM, a register of the VIP, one of the timer, or nothing.
-- Assumes nothing.
use mathlib.Core.Path.{refl, ◌∙◌}
use Rattle.word.specs.Width.{bytes_of}
use Rattle.bus.proofs.Sizes.{width_ok}
use Rattle.bus.proofs.ByPlace.{led, pak-at, register-at, pak-puts, register-puts, port-puts, quiet-puts}
use Rattle.bus.proofs.store.elsewhere.Goals as goal

pub write-requires : goal.write-requires
write-requires c =
    let b = c in
    let l = led _ _ c.place_of.result _ c.aligned.ensures
    c.in-Pak.is c.place_of.ensures in
    let at = pak-at (bytes_of b.args.width) b.args.address (width_ok b.args.width) _ l in
    (at.0, b.requires.0, at.1)

pub write-requires-in-Register : goal.write-requires-in-Register
write-requires-in-Register c =
    let b = c in
    let l = led _ _ c.place_of.result _ c.aligned.ensures
    c.in-Register.is c.place_of.ensures in
    let at = register-at (bytes_of b.args.width) b.args.address (width_ok b.args.width) _ l in
    at

pub returns-in-Pak : goal.returns-in-Pak
returns-in-Pak c =
    let b = c in
    let l = led _ _ c.place_of.result _
    c.aligned.ensures
    c.in-Pak.is c.place_of.ensures in
    λ rom wram vram.
    c.write.ensures rom wram vram _ ∙ pak-puts (bytes_of b.args.width) b.args.address (width_ok b.args.width) _ _ b.args.value l

pub returns-in-Register : goal.returns-in-Register
returns-in-Register c =
    let b = c in
    let l = led _ _ c.place_of.result _ c.aligned.ensures
    c.in-Register.is c.place_of.ensures in
    λ rom wram vram.
    c.write-in-Register.ensures rom wram vram _
    ∙ register-puts (bytes_of b.args.width) b.args.address (width_ok b.args.width) _ _ b.args.value l (register-at (bytes_of b.args.width) b.args.address (width_ok b.args.width) _ l).1

pub returns-in-Port : goal.returns-in-Port
returns-in-Port c =
    let b = c in
    let l = led _ _ c.place_of.result _ c.aligned.ensures
    c.in-Port.is c.place_of.ensures in
    λ rom wram vram. rw c.put_port.ensures (port-puts (bytes_of b.args.width) b.args.address (width_ok b.args.width) _ _ b.args.value l)

pub returns-in_default : goal.returns-in_default
returns-in_default c =
    let b = c in
    let l = led _ _ c.place_of.result c.place_of.result c.aligned.ensures refl c.place_of.ensures in
    λ rom wram vram. quiet-puts _ (bytes_of b.args.width) b.args.address (width_ok b.args.width) b.args.value c.place_of.result l b.requires.1 c.in_default.not-Pak c.in_default.not-Register c.in_default.not-Port
