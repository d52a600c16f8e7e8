-- `processor_replay::records::difference`: the words in their order. Assumes nothing.
use Rattle.processor_replay.proofs.Words.{first-differs, second-differs, third-differs, fourth-differs, none-differs}
use Rattle.processor_replay.proofs.records.difference.Goals as goal

pub returns-then-word_at-before : goal.returns-then-word_at-before
returns-then-word_at-before c = first-differs _ _ _ _ _ _ _ c.word_at.ensures c.if-word_at-before.true

pub returns-then-word_at-after : goal.returns-then-word_at-after
returns-then-word_at-after c = second-differs _ _ _ _ _ _ _ c.word_at.ensures
    c.if-word_at-before.false _ c.word_at-2.ensures c.if-word_at-after.true

pub returns-then-word_at-psw : goal.returns-then-word_at-psw
returns-then-word_at-psw c = third-differs _ _ _ _ _ _ _ c.word_at.ensures
    c.if-word_at-before.false _ c.word_at-2.ensures
    c.if-word_at-after.false _ c.word_at-3.ensures c.if-word_at-psw.true

pub returns-then-word_at-sum : goal.returns-then-word_at-sum
returns-then-word_at-sum c = fourth-differs _ _ _ _ _ _ _ c.word_at.ensures
    c.if-word_at-before.false _
    c.word_at-2.ensures c.if-word_at-after.false _
    c.word_at-3.ensures c.if-word_at-psw.false _ c.word_at-4.ensures
    c.if-word_at-sum.true

pub returns : goal.returns
returns c = none-differs _ _ _ _ _ _ _ c.word_at.ensures
    c.if-word_at-before.false _
    c.word_at-2.ensures c.if-word_at-after.false _
    c.word_at-3.ensures c.if-word_at-psw.false _ c.word_at-4.ensures
    c.if-word_at-sum.false
