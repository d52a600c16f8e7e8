-- `drawing_objects::group` meets its contract: what is left of the group, applied to the strip now, is the whole group applied to the strip at first.
-- Assumes nothing.
use native.Mathlib.Omega.{arith}
use borrow.Author.Rules.{rules}
use Rattle.bus.specs.Registers.{spt_of}
use Rattle.drawing_objects.proofs.Groups.{group-begun, group-more, group-done}
use Rattle.drawing_objects.proofs.group.Goals as goal

pub group_count-left-requires : goal.group_count-left-requires
group_count-left-requires c = c.requires.n_bound

pub offset_bounds-registers-n : goal.offset_bounds-registers-n
offset_bounds-registers-n c = omega arith

pub bounds-registers-n : goal.bounds-registers-n
bounds-registers-n c = omega arith

pub wide-k-requires : goal.wide-k-requires
wide-k-requires c = search rules

pub loop-left-init : goal.loop-left-init
unfolding spt_of
loop-left-init c = (
  omega (arith, c.requires.n_bound.1 c.args.n (omega arith)),
  group-begun _ _ _ _ _ _ _ _ c.group_count-left.ensures.0 c.wide-k.ensures.0,
)

pub paint_object-requires : goal.paint_object-requires
paint_object-requires c = record {
  buffer_len = omega (arith, c.loop-left.invariant.1.size);
  vram_len = omega arith;
}

pub overflow_add-k : goal.overflow_add-k
overflow_add-k c = omega arith

pub overflow_sub-left : goal.overflow_sub-left
overflow_sub-left c = omega arith

pub loop-left-smaller : goal.loop-left-smaller
loop-left-smaller c = omega arith

pub loop-left-preserved : goal.loop-left-preserved
loop-left-preserved c = (
  omega arith,
  group-more _ _ _ _ _ _ _ _ _ _ c.loop-left-test.true
      c.loop-left.invariant.1 c.paint_object.ensures,
)

pub returns : goal.returns
returns c = group-done _ _ _ _ _ _ _ _ _ (omega arith) c.loop-left.invariant.1
