-- `processor_fast_move::branch::branch`: to the target where taken.
use Rattle.std.proofs.Common.{◌≡◌, sym, refl, ap, ◌∙◌, rules}
use Rattle.processor_fast_move.proofs.branch.branch.Goals as goal

pub returns-then-taken : goal.returns-then-taken
returns-then-taken c = rw (c.if-taken.true, c.wrapping_add_u32-to.ensures.value, c.extend9.ensures)

pub returns : goal.returns
returns c = rw (c.if-taken.false, c.after_one.ensures)
