-- `bus_list::sizes_ok`: all sizes are right exactly if those from k on are. Assumes nothing.
use mathlib.Core.Path.{sym, ◌∙◌}
use Rattle.bus_list.proofs.Sizes.{sized, not_sized, sizes-next, sizes-not, sizes-none}
use Rattle.bus_list.proofs.sizes_ok.Goals as goal

pub returns-then-is_err : goal.returns-then-is_err
returns-then-is_err c =
    let l = c.loop-k in
    let bad = not_sized _ _ c.try_from.ensures (sym c.is_err.ensures.value ∙ c.if-is_err.true) in
    sym (l.invariant ∙ sizes-not _ l.k _ c.loop-k-test.true (rw c.word_at.ensures at bad))

pub loop-k-preserved : goal.loop-k-preserved
loop-k-preserved c =
    let l = c.loop-k in
    let good = sized _ _ c.try_from.ensures (sym c.is_err.ensures.value ∙ c.if-is_err.false) in
    l.invariant ∙ sizes-next _ l.k _ c.loop-k-test.true (rw c.word_at.ensures at good)

pub returns : goal.returns
returns c = sym (c.loop-k.invariant ∙ sizes-none _ _ _ c.loop-k-test.false)
