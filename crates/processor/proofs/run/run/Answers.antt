-- `processor::run::run`: what is left of the budget follows the run from the start.
use mathlib.Core.Path.{◌≡◌, sym, ◌∙◌}
use Prim.Native.Nat.{◌+◌, ◌-◌}
use native.Mathlib.Omega.{arith}
use Rattle.std.proofs.Common.{rules}
use Rattle.processor.proofs.Follows.{follows-start, follows-counted, follows_on, follows-stopped, follows-finished}
use Rattle.processor.proofs.run.run.Goals as goal

pub loop-count-init : goal.loop-count-init
loop-count-init c = (follows-start _ _ _, search rules)

pub returns-then-budget-count-clause-done : goal.returns-then-budget-count-clause-done
returns-then-budget-count-clause-done c =
    let a = c.args in
    let l = c.loop-count in
    let e : a.budget - l.count + l.count ≡ a.budget = omega (arith, c.loop-count-test.true) in
    let f = follows_on _ _ _ _ _ _ l.invariant.0 (a.budget - l.count) _ _ _ e c.fast-q.ensures.follows in
    follows-finished _ _ _ _ _ _ f c.if-budget-count.true

pub loop-count-preserved : goal.loop-count-preserved
loop-count-preserved c =
    let a = c.args in
    let l = c.loop-count in
    let e : a.budget - l.count + l.count ≡ a.budget = omega (arith, c.loop-count-test.true) in
    let f = follows_on _ _ _ _ _ _ l.invariant.0 (a.budget - l.count) _ _ _ e c.fast-q.ensures.follows in (
      follows-counted _ _ _ _ _ _ f c.if-budget-count.false _ c.step.ensures.done (sym c.stops.ensures ∙ c.in-None.is),
      search rules,
    )

pub returns-in-Some-clause-done : goal.returns-in-Some-clause-done
returns-in-Some-clause-done c =
    let a = c.args in
    let l = c.loop-count in
    let e : a.budget - l.count + l.count ≡ a.budget = omega (arith, c.loop-count-test.true) in
    let f = follows_on _ _ _ _ _ _ l.invariant.0 (a.budget - l.count) _ _ _ e c.fast-q.ensures.follows in
    follows-stopped _ _ _ _ _ _ f c.if-budget-count.false _ _ c.step.ensures.done (sym c.stops.ensures ∙ c.in-Some.is)

pub returns-clause-done : goal.returns-clause-done
returns-clause-done c = follows-finished _ _ _ _ _ _ c.loop-count.invariant.0 c.loop-count-test.false
