-- `processor_fast::stretch::stretch`: where the code stands.
use Rattle.processor_fast.proofs.Leading.{stretched-none}
use Rattle.processor_fast.proofs.stretch.stretch.Goals as goal

pub returns-then-pc-ne0-clause-stretched : goal.returns-then-pc-ne0-clause-stretched
returns-then-pc-ne0-clause-stretched c = stretched-none _ _ _ _ _ _

pub returns-in-Elsewhere-clause-stretched : goal.returns-in-Elsewhere-clause-stretched
returns-in-Elsewhere-clause-stretched c = stretched-none _ _ _ _ _ _
