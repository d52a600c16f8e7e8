-- `drawing_bytes::output::put` meets its contract: nothing is stored past the output buffer. Assumes nothing.
use borrow.Author.Rules.{rules}
use mathlib.Core.Path.{sym}
use native.Mathlib.Omega.{arith}
use lib.Seq.{set_out}
use Rattle.drawing_bytes.proofs.output.put.Goals as goal

pub returns-then-output-n : goal.returns-then-output-n
returns-then-output-n c = record { count = search rules; words = sym (set_out c.args.output.now c.args.n c.args.a (omega arith)) }
