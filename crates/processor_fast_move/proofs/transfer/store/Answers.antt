-- `processor_fast_move::transfer::store`: its own case, where it was stored.
use Rattle.std.proofs.Common.{refl}
use Rattle.processor_execute.specs.Execute.{execute_of}
use Rattle.processor_fast_compute.proofs.Results.{store_does}
use Rattle.processor_fast_move.proofs.transfer.store.Goals as goal

pub returns-then-not-direct-clause-stores : goal.returns-then-not-direct-clause-stores
returns-then-not-direct-clause-stores c = λ base psw sys even aligned.
    let m = c.args.memories.now in
    (refl, (rw (c.if-not-direct.true) at (c.direct.ensures m.rom.now m.pak.now m.device.now)).0)

pub returns-then-not-direct-clause-outputs : goal.returns-then-not-direct-clause-outputs
returns-then-not-direct-clause-outputs c = λ base psw sys even aligned.
    let m = c.args.memories.now in
    (refl, (rw (c.if-not-direct.true) at (c.direct.ensures m.rom.now m.pak.now m.device.now)).0)

pub returns-clause-stores : goal.returns-clause-stores
unfolding execute_of
returns-clause-stores c = λ base psw sys even aligned.
    let a = c.args in
    let m = a.memories.now in
    store_does base a.x psw _ sys a.flags _ _ aligned c.after_two.ensures _
    (rw (c.if-not-direct.false, c.address-a.ensures, c.reg2-v.ensures) at (c.direct.ensures m.rom.now m.pak.now m.device.now))

pub returns-clause-outputs : goal.returns-clause-outputs
unfolding execute_of
returns-clause-outputs c = λ base psw sys even aligned.
    let a = c.args in
    let m = a.memories.now in
    store_does base a.x psw _ sys a.flags _ _ aligned c.after_two.ensures _
    (rw (c.if-not-direct.false, c.address-a.ensures, c.reg2-v.ensures) at (c.direct.ensures m.rom.now m.pak.now m.device.now))
