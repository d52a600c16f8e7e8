-- `saved_salvage::replace::put_processor` meets its contract. Assumes nothing.
use native.Mathlib.Omega.{arith}
use Prim.Native.Nat.{ℕ, ◌+◌, ◌-◌}
use mathlib.Core.Path.{◌≡◌, ap, ◌∙◌}
use lib.ListN.{take, drop, length-take, length-drop}
use Rattle.saved_bytes.specs.inner.Put.{put_at}
use Rattle.saved_salvage.proofs.Replacing.{machine-general, reset-put}
use Rattle.saved_salvage.proofs.replace.put_processor.Goals as goal

pub put_bytes-requires : goal.put_bytes-requires
put_bytes-requires c = simp (length-take, length-drop) (omega arith)

pub returns-then-kept : goal.returns-then-kept
returns-then-kept c =
    let c5 = c in
    let a = c5.args in
    let n : a.at + 172 - a.at ≡ 172 = omega arith in
    rw c5.if-kept.true
    (c.put_bytes.ensures
    ∙ ap (λ (k : ℕ). put_at a.output.now a.at (take k (drop a.at a.file.now))) n)

pub put_words-requires : goal.put_words-requires
put_words-requires c =
    let c5 = c in
    omega (arith, machine-general _ c5.reset-reset.ensures, c5.requires.1)

pub returns : goal.returns
returns c =
    let c7 = c in
    let c10 = c7 in
    let c13 = c10 in
    let c17 = c13 in
    rw c13.if-kept.false
    (reset-put c17.args.output.now _ _ c17.args.at _ _ c17.requires.1 c13.reset-reset.ensures c10.rest-rest.ensures
    c7.put_words.ensures c.put_words-2.ensures)
