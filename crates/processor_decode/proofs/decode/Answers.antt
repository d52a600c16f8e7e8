-- `processor_decode::decode`: the eight opcodes of Bcond, which one arm takes.
use native.Mathlib.Omega.{arith}
use Rattle.processor_decode.proofs.Rows.{branch_row}
use Rattle.processor_decode.proofs.decode.Goals as goal

pub returns-in-32-to-39 : goal.returns-in-32-to-39
returns-in-32-to-39 c = rw (branch_row c.args.first c.args.second (omega arith) (omega arith)) c.branch-h.ensures
