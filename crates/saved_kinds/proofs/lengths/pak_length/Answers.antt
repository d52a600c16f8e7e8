-- `saved_kinds::lengths::pak_length` meets its contract. Assumes nothing.
use native.Mathlib.Omega.{arith}
use Rattle.saved_kinds.proofs.Sizes.{one_byte, pak-length-is}
use Rattle.saved_kinds.proofs.lengths.pak_length.Goals as goal

pub overflow_sub-besides : goal.overflow_sub-besides
overflow_sub-besides c = omega (arith, one_byte c.args.form)

pub returns-then-length-besides : goal.returns-then-length-besides
returns-then-length-besides c = omega (arith, pak-length-is c.args.form c.args.length c.file_length-besides.ensures)

pub returns : goal.returns
returns c = pak-length-is c.args.form c.args.length c.file_length-besides.ensures
