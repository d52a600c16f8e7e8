-- `processor_fast::stretch::inside`: what was done leads from the start to here.
use Rattle.std.proofs.Common.{◌≡◌, suc, ◌-◌, length, get_or, refl, ◌∙◌, arith, rules}
use Rattle.bus.specs.Lent.{leaving}
use Rattle.bus.specs.Memories.{held_by}
use Rattle.bus.specs.inner.Code.{Stands}
use Rattle.bus.specs.TimerLines.{lines_place}
use Rattle.bus.proofs.Fetches.{stands-even, stands-room}
use Rattle.processor_fast_compute.proofs.Results.{one-even}
use Rattle.processor_fast.proofs.Leading.{stays_here, leads-more, aligned-more, leads-masked, quiet-masked, leads-same, leads-none, start-even, ends}
use Rattle.processor_fast.proofs.stretch.inside.Goals as goal

pub loop-left-init : goal.loop-left-init
loop-left-init c =
    let a = c.args in
    let even = stands-even (length a.rom.now) a.base a.last a.in_rom c.requires.0.rom-ok c.requires.1 in (
      leads-none a.regs.now a.sys.now a.pc a.psw a.base _ c.unpacked-flags.result _ _
          (omega (arith, c.ranges.pc.fits, c.ranges.base.fits)) c.unpacked-flags.ensures (omega arith),
      omega arith,
      start-even a.pc a.base _ (omega arith) c.requires.2 even (omega (arith, c.ranges.pc.fits, c.ranges.base.fits)),
      search rules,
      refl,
      λ u. u,
      refl,
    )

pub returns-then-last-x-clause-stretched : goal.returns-then-last-x-clause-stretched
returns-then-last-x-clause-stretched c =
    let a = c.args in
    let l = c.loop-left in
    let e : leaving a.rom.now c.wram-then-last-x-1.given.0 c.vram-then-last-x-1.given.0 c.pak-then-last-x-1.given.0 c.device-then-last-x-1.given.0
    ≡ held_by l.memories = search rules in
    rw e
    (record {
      within = l.invariant.1;
      stretched = ends a.budget l.left a.regs.now l.regs a.sys.now l.sys _ (held_by l.memories) a.pc a.psw l.high a.base l.x _ _ l.flags
          l.invariant.4 l.invariant.5 refl c.packed.ensures l.invariant.0;
    })

pub loop-left-preserved-in-Done : goal.loop-left-preserved-in-Done
loop-left-preserved-in-Done c =
    let a = c.args in
    let even = stands-even (length a.rom.now) a.base a.last a.in_rom c.requires.0.rom-ok c.requires.1 in
    let l = c.loop-left in
    let d = c.dispatch in
    let m = held_by l.memories in
    let stands : Stands (length l.memories.rom.now) a.in_rom a.base a.last = rw l.invariant.3.0 c.requires.1 in
    let at = c.fetch-w.ensures a.base a.last stands l.invariant.2 c.if-last-x.false in
    let lines = get_or l.memories.device.now lines_place 0 in
    let t = c.loop-left-test.true in
    let k : a.budget - (l.left - 1) ≡ suc (a.budget - l.left) = omega (arith, t, l.invariant.1) in
    let e = c.in-Done.is in (
      leads-more _ _ (a.budget - l.left) l.regs _ l.sys _ a.base l.x l.high _ _ l.flags m _
          d.result l.invariant.0 at.first at.second even l.invariant.2 lines d.ensures.turns
          (stays_here a.regs.now l.regs a.sys.now l.sys _ m a.pc a.psw l.high a.base l.x l.flags
          l.invariant.4 l.invariant.5) _ _ _ _ e k,
      omega (arith, t, l.invariant.1),
      aligned-more _ _ (a.budget - l.left) l.regs _ l.sys _ a.base l.x l.high _ _ l.flags m _
          d.result l.invariant.0 at.first at.second even l.invariant.2 lines d.ensures.turns _ _ _ e,
      search rules,
      d.ensures.devices ∙ l.invariant.4,
      l.invariant.5,
      d.ensures.pak ∙ l.invariant.6,
    )

pub loop-left-preserved : goal.loop-left-preserved
loop-left-preserved c =
    let a = c.args in
    let even = stands-even (length a.rom.now) a.base a.last a.in_rom c.requires.0.rom-ok c.requires.1 in
    let l = c.loop-left in
    let d = c.dispatch in
    let m = held_by l.memories in
    let stands : Stands (length l.memories.rom.now) a.in_rom a.base a.last = rw l.invariant.3.0 c.requires.1 in
    let at = c.fetch-w.ensures a.base a.last stands l.invariant.2 c.if-last-x.false in
    let lines = get_or l.memories.device.now lines_place 0 in
    let t = c.loop-left-test.true in
    let k : a.budget - (l.left - 1) ≡ suc (a.budget - l.left) = omega (arith, t, l.invariant.1) in
    let e = c.in-Masked.is in
    let quiet = rw l.invariant.4 at (quiet-masked _ _ (a.budget - l.left) l.regs _ l.sys _ a.base l.x l.high _ _ l.flags m _
    d.result l.invariant.0 at.first at.second even l.invariant.2 lines d.ensures.turns _ e) in (
      leads-masked _ _ (a.budget - l.left) l.regs _ l.sys _ a.base l.x l.high _ _ l.flags m _
          d.result l.invariant.0 at.first at.second even l.invariant.2 lines d.ensures.turns
          (stays_here a.regs.now l.regs a.sys.now l.sys _ m a.pc a.psw l.high a.base l.x l.flags
          l.invariant.4 l.invariant.5) _ _ _ e c.after_one-x.ensures k,
      omega (arith, t, l.invariant.1),
      rw c.after_one-x.ensures (one-even l.x l.invariant.2),
      search rules,
      d.ensures.devices ∙ l.invariant.4,
      λ u. quiet (l.invariant.5 u),
      d.ensures.pak ∙ l.invariant.6,
    )

pub returns-in-NotHere-clause-stretched : goal.returns-in-NotHere-clause-stretched
returns-in-NotHere-clause-stretched c =
    let a = c.args in
    let even = stands-even (length a.rom.now) a.base a.last a.in_rom c.requires.0.rom-ok c.requires.1 in
    let l = c.loop-left in
    let d = c.dispatch in
    let m = held_by l.memories in
    let stands : Stands (length l.memories.rom.now) a.in_rom a.base a.last = rw l.invariant.3.0 c.requires.1 in
    let at = c.fetch-w.ensures a.base a.last stands l.invariant.2 c.if-last-x.false in
    let lines = get_or l.memories.device.now lines_place 0 in
    let e : leaving a.rom.now c.wram-in-NotHere-1.given.0 c.vram-in-NotHere-1.given.0 c.pak-in-NotHere-1.given.0 c.device-in-NotHere-1.given.0
    ≡ held_by d.new.memories = search rules in
    rw e
    (record {
      within = l.invariant.1;
      stretched = ends a.budget l.left a.regs.now _ a.sys.now _ _ (held_by d.new.memories) a.pc a.psw l.high a.base l.x _ _ l.flags
          (d.ensures.devices ∙ l.invariant.4) l.invariant.5 refl c.packed-in-NotHere.ensures
          (leads-same _ _ (a.budget - l.left) l.regs _ l.sys _ a.base l.x l.high _ _ l.flags m _
          d.result l.invariant.0 at.first at.second even l.invariant.2 lines d.ensures.turns c.in-NotHere.is);
    })

pub returns-clause-stretched : goal.returns-clause-stretched
returns-clause-stretched c =
    let a = c.args in
    let l = c.loop-left in
    let e : leaving a.rom.now c.wram-1.given.0 c.vram-1.given.0 c.pak-1.given.0 c.device-1.given.0
    ≡ held_by l.memories = search rules in
    rw e
    (record {
      within = l.invariant.1;
      stretched = ends a.budget l.left a.regs.now l.regs a.sys.now l.sys _ (held_by l.memories) a.pc a.psw l.high a.base l.x _ _ l.flags
          l.invariant.4 l.invariant.5 refl c.packed-2.ensures l.invariant.0;
    })
