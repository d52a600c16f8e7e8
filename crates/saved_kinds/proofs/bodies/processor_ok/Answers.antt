-- `saved_kinds::bodies::processor_ok` meets its contract. Assumes nothing.
use native.Mathlib.Omega.{arith}
use mathlib.Core.Path.{◌∙◌}
use Rattle.saved_kinds.proofs.Tests.{mode-none, state-decides}
use Rattle.saved_kinds.proofs.bodies.processor_ok.Goals as goal

pub returns-then-rest-gt2 : goal.returns-then-rest-gt2
returns-then-rest-gt2 c = mode-none (c.args.body.now) _ _
    (c.take_words.ensures) (c.take_words-2.ensures)
    (c.if-rest-gt2.true)

pub returns : goal.returns
returns c = c.state_ok.ensures ∙ state-decides
    (c.args.body.now) _ _
    (c.take_words.ensures)
    (c.take_words-2.ensures) (omega arith)
