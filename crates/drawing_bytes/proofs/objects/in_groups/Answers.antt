-- `drawing_bytes::objects::in_groups` meets its contract: an object of the groups left is one of all, where none was found before.
-- Assumes nothing.
use native.Mathlib.Omega.{arith}
use Prim.Native.Nat.{◌+◌, ◌-◌, ◌%◌}
use mathlib.Core.Path.{◌≡◌, sym, ◌∙◌}
use Rattle.drawing_bytes.proofs.Drawn.{groups_none, groups-found, groups-on}
use Rattle.drawing_bytes.proofs.objects.in_groups.Goals as goal

pub returns-then-in_group : goal.returns-then-in_group
returns-then-in_group c =
    groups-found c.args.registers.now c.args.k
    (c.args.worlds - c.loop-world.world) (3 - c.loop-world.world % 4) (omega arith) (omega arith) (sym
    c.in_group.ensures ∙ c.if-in_group.true)
    ∙ c.loop-world.invariant

pub loop-world-preserved : goal.loop-world-preserved
loop-world-preserved c =
    let w = c.loop-world.world in
    let p : c.args.worlds - (w + 1) ≡ c.args.worlds - w - 1 = omega arith in
    let q : 3 - (w + 1) % 4 ≡ (3 - w % 4 + 3) % 4 = omega arith in
    rw (p, q)
    (groups-on c.args.registers.now c.args.k
    (c.args.worlds - w) (3 - w % 4) (omega arith) (omega arith) (sym
    c.in_group.ensures ∙ c.if-in_group.false)
    ∙ c.loop-world.invariant)

pub returns : goal.returns
returns c = groups_none c.args.registers.now c.args.k (c.args.worlds - c.loop-world.world)
    (3 - c.loop-world.world % 4) (omega arith) ∙ c.loop-world.invariant
