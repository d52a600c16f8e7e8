-- `processor_step::step::step`: the step that accepts an interrupt, of the level that is accepted.
use Rattle.bus.specs.Memories.{held_by}
use Rattle.processor_step.specs.Step.{step_of}
use Rattle.processor_step.proofs.step.step.Goals as goal

pub returns-in-Some-clause-done : goal.returns-in-Some-clause-done
unfolding step_of
returns-in-Some-clause-done c =
    let a = c.args in
    let e = c.in-Some.ensures in
    rw e.0 (rw e.1 at (c.interrupt.ensures.done a.regs.now a.mode (held_by a.memories.now)))
