-- `word::extend` meets its contract: below half the number is kept, from half on 2 ^ 32 - 2 * half is added.
-- Assumes nothing.
use borrow.Author.Tests.{lt-ltb, le-ltb}
use native.Mathlib.Omega.{arith}
use Rattle.word.specs.Extend.{extend_of}
use Rattle.word.proofs.extend.Goals as goal

pub returns-then-x-half : goal.returns-then-x-half
unfolding extend_of
returns-then-x-half c = simp (lt-ltb _ _ c.if-x-half.true)

pub returns : goal.returns
unfolding extend_of
returns c = simp (le-ltb _ _ c.if-x-half.false) (omega arith)
