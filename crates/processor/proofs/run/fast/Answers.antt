-- `processor::run::fast`: a stretch in running mode where nothing is accepted, else nothing.
use mathlib.Core.Path.{sym, ◌∙◌}
use Rattle.processor.proofs.Follows.{follows-start}
use Rattle.processor.proofs.FastSteps.{follows-leads}
use Rattle.processor.proofs.run.fast.Goals as goal

pub returns-then-accepts-clause-follows : goal.returns-then-accepts-clause-follows
returns-then-accepts-clause-follows c = follows-start _ _ _

pub returns-else-accepts-clause-follows : goal.returns-else-accepts-clause-follows
returns-else-accepts-clause-follows c =
    let a = c.args in
    let mode = c.in-Running.is in
    let t = c.stretch.ensures.stretched in
    let none = rw mode at (sym c.accepts.ensures ∙ c.if-accepts.false) in
    rw mode (follows-leads _ _ none a.budget _ _ _ t.within t.leads)
