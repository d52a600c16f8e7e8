-- `processor_replay::records::replay`: what is left of the trace follows the replay from the start.
use Rattle.std.proofs.Common.{◌≡◌, ◌/◌, length, sym, ◌∙◌, arith, rules}
use Rattle.processor_replay.specs.Replay.{records_of}
use Rattle.processor_replay.proofs.Along.{along-start, along-agreed, along-differed, along-ended, along-finished}
use Rattle.processor_replay.proofs.records.replay.Goals as goal

pub loop-k-init : goal.loop-k-init
loop-k-init c = (along-start _ _ _ _, search rules)

pub returns-in-Some-clause-done : goal.returns-in-Some-clause-done
unfolding records_of
returns-in-Some-clause-done c =
    along-ended _ _ _ _ _ _ _ c.loop-k.invariant.0 c.loop-k-test.true _ _ c.step.ensures.done (sym c.ends.ensures ∙ c.in-Some.is)

pub returns-then-word-lt4-clause-done : goal.returns-then-word-lt4-clause-done
unfolding records_of
returns-then-word-lt4-clause-done c =
    along-differed _ _ _ _ _ _ _ c.loop-k.invariant.0 c.loop-k-test.true _ c.step.ensures.done
    (sym c.ends.ensures ∙ c.in-None.is) _ c.sum-s.ensures _ c.difference-word.ensures c.if-word-lt4.true

pub loop-k-preserved : goal.loop-k-preserved
loop-k-preserved c = (
  along-agreed _ _ _ _ _ _ _ c.loop-k.invariant.0 c.loop-k-test.true _ c.step.ensures.done
      (sym c.ends.ensures ∙ c.in-None.is) _ c.sum-s.ensures _ c.difference-word.ensures c.if-word-lt4.false,
  search rules,
)

pub returns-clause-done : goal.returns-clause-done
unfolding records_of
returns-clause-done c =
    let l = c.loop-k in
    let e : l.k ≡ length c.args.trace.now / 16 = omega (arith, c.loop-k-test.false, l.auto.k-end) in
    rw e at (along-finished _ _ _ _ _ _ _ l.invariant.0 c.loop-k-test.false)
