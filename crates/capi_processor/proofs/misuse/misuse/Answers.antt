-- `capi_processor::misuse::misuse`: 0, or the number of what the call below answers.
use borrow.Author.Tests.{lt-ltb, le-ltb}
use Rattle.capi_processor.specs.inner.Misuse.{misuse_at}
use Rattle.capi_processor.proofs.misuse.misuse.Goals as goal

pub returns-then-mode-le2 : goal.returns-then-mode-le2
unfolding misuse_at
returns-then-mode-le2 c = simp (le-ltb 2 _ c.if-mode-le2.true)

pub returns : goal.returns
unfolding misuse_at
returns c =
    rw (c.misuse_number.ensures, c.verdict.ensures, c.processor_in-p.ensures)
    (simp (lt-ltb 2 _ c.if-mode-le2.false))
