-- `processor_execute::floating::settle`: by the outcome.
use Rattle.processor_execute.proofs.floating.settle.Goals as goal

pub returns-in-Number : goal.returns-in-Number
returns-in-Number c = λ m. rw c.in-Number.is (c.number.ensures c.args.pc _ m)

pub returns-in-Word : goal.returns-in-Word
returns-in-Word c = λ m. rw c.in-Word.is (c.whole.ensures c.args.pc _ m)
