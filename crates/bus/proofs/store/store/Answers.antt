-- `bus::store::store` meets its contract: the fast path, or what goes elsewhere. Assumes nothing.
use mathlib.Core.Path.{ap, ◌∙◌}
use Rattle.word.specs.Width.{bytes_of}
use Rattle.bus.specs.Memory.{Memory, store_of}
use Rattle.bus.proofs.ByPlace.{stored-not}
use Rattle.bus.proofs.store.store.Goals as goal

pub elsewhere-requires : goal.elsewhere-requires
elsewhere-requires c =
    let b = c in
    (b.requires.pak-ok, (stored-not _ _ _ _ _ _ c.if-not-direct.true (c.direct.ensures b.args.rom.now b.args.pak.now b.args.regs.now)).1)

pub returns-then-not-direct : goal.returns-then-not-direct
returns-then-not-direct c =
    let b = c in
    c.elsewhere.ensures b.args.rom.now _ _
    ∙ ap (λ (x : Memory). store_of x (bytes_of b.args.width) b.args.address b.args.value)
    (stored-not _ _ _ _ _ _ c.if-not-direct.true (c.direct.ensures b.args.rom.now b.args.pak.now b.args.regs.now)).0
