-- `saved_bytes::numbers::same_halves` meets its contract: what is left to compare decides. Assumes nothing.
use native.Mathlib.Omega.{arith}
use mathlib.Core.Path.{◌≡◌, sym, ◌∙◌}
use lib.ListN.{length}
use Rattle.saved_bytes.specs.Numbers.{halves_from}
use Rattle.saved_bytes.proofs.LittleEndian.{length-halves-from, get_or-halves-first}
use Rattle.saved_bytes.proofs.Comparing.{left-more, left-differs, left-none}
use Rattle.saved_bytes.proofs.numbers.same_halves.Goals as goal

pub overflow_cast-halves : goal.overflow_cast-halves
overflow_cast-halves c = omega (arith, c.shared_slice_known-in-loop-k-1.given c.loop-k.k)

pub returns-then-half_at-halves : goal.returns-then-half_at-halves
returns-then-half_at-halves c =
    let c4 = c in
    let a = c4.args in
    let file = a.file.now in
    let halves = a.halves.now in
    let l = length-halves-from file 0 (length halves) in
    left-differs (halves_from file 0 (length halves)) halves c4.loop-k.k (omega arith) l c4.loop-k.invariant.1
    (λ e. c.if-half_at-halves.true (c.half_at.ensures.0 ∙ (sym (get_or-halves-first file (length halves) c4.loop-k.k (omega arith)) ∙ e)))

pub loop-k-preserved : goal.loop-k-preserved
loop-k-preserved c =
    let c4 = c in
    let a = c4.args in
    let file = a.file.now in
    let halves = a.halves.now in
    let l = length-halves-from file 0 (length halves) in (
      omega arith,
      left-more (halves_from file 0 (length halves)) halves c4.loop-k.k (omega arith) l c4.loop-k.invariant.1
          (get_or-halves-first file (length halves) c4.loop-k.k (omega arith) ∙ (sym c.half_at.ensures.0 ∙ c.if-half_at-halves.false)),
    )

pub returns : goal.returns
returns c =
    let a = c.args in
    let l = length-halves-from a.file.now 0 (length a.halves.now) in
    let e : c.loop-k.k ≡ length (halves_from a.file.now 0 (length a.halves.now)) = omega arith in
    left-none (halves_from a.file.now 0 (length a.halves.now)) a.halves.now l (rw e at c.loop-k.invariant.1)
