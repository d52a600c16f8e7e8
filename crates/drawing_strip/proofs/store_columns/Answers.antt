-- `drawing_strip::store_columns` meets its contract: the columns so far are stored, and no other byte changed. Assumes nothing.
use native.Mathlib.Omega.{arith}
use borrow.Author.Rules.{rules}
use mathlib.Core.Path.{◌≡◌}
use lib.ListN.{length-set}
use Rattle.drawing_strip.proofs.Stores.{stored-none, stored_more}
use Rattle.drawing_strip.proofs.store_columns.Goals as goal

pub loop-x-init : goal.loop-x-init
loop-x-init c = (omega arith, stored-none _ _ _ _)

pub overflow_mul-at : goal.overflow_mul-at
overflow_mul-at c = omega arith

pub overflow_mul-at-in-loop-x : goal.overflow_mul-at-in-loop-x
overflow_mul-at-in-loop-x c = omega arith

pub overflow_add-at : goal.overflow_add-at
overflow_add-at c = omega arith

pub offset_bounds-columns-x : goal.offset_bounds-columns-x
offset_bounds-columns-x c = omega arith

pub bounds-columns-x : goal.bounds-columns-x
bounds-columns-x c = omega arith

pub wide-column-requires : goal.wide-column-requires
wide-column-requires c = search rules

pub overflow_cast-image : goal.overflow_cast-image
overflow_cast-image c = omega arith

pub bounds-image-at : goal.bounds-image-at
bounds-image-at c = omega (arith, c.loop-x.invariant.1.size)

pub overflow_cast-image-in-loop-x : goal.overflow_cast-image-in-loop-x
overflow_cast-image-in-loop-x c = omega arith

pub overflow_add-image : goal.overflow_add-image
overflow_add-image c = omega arith

pub bounds-image-at-in-loop-x : goal.bounds-image-at-in-loop-x
bounds-image-at-in-loop-x c = simp length-set (omega (arith, c.loop-x.invariant.1.size))

pub overflow_add-x : goal.overflow_add-x
overflow_add-x c = omega arith

pub loop-x-smaller : goal.loop-x-smaller
loop-x-smaller c = omega arith

pub loop-x-preserved : goal.loop-x-preserved
loop-x-preserved c = (
  omega arith,
  stored_more _ _ _ _ _ _ (omega arith) (omega (arith, c.loop-x.invariant.1.size)) _ _ (omega arith)
      c.wide-column.ensures.0 c.loop-x.invariant.1,
)

pub shape_of-image : goal.shape_of-image
shape_of-image c = c.loop-x.invariant.1.size

pub returns : goal.returns
returns c = let e : c.loop-x.x ≡ 384 = omega arith in
    rw e at c.loop-x.invariant.1
