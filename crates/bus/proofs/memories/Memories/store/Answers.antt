-- What goes to neither WRAM nor VRAM is stored elsewhere.
use mathlib.Core.Path.{ap, ◌∙◌}
use Rattle.word.specs.Width.{bytes_of}
use Rattle.bus.specs.Memory.{Memory, store_of}
use Rattle.bus.proofs.ByPlace.{stored-not}
use Rattle.bus.proofs.memories.Memories.store.Goals as goal

pub elsewhere-requires : goal.elsewhere-requires
elsewhere-requires c =
    let m = c.args.self.now in
    (m.lengths.pak-ok, (stored-not _ _ _ _ _ _ c.if-not-direct.true (c.direct.ensures m.rom.now m.pak.now m.device.now)).1)

pub returns-then-not-direct-clause-bytes : goal.returns-then-not-direct-clause-bytes
returns-then-not-direct-clause-bytes c =
    let m = c.args.self.now in
    c.elsewhere.ensures m.rom.now _ _
    ∙ ap (λ (x : Memory). store_of x (bytes_of c.args.width) c.args.address c.args.value)
    (stored-not _ _ _ _ _ _ c.if-not-direct.true (c.direct.ensures m.rom.now m.pak.now m.device.now)).0
