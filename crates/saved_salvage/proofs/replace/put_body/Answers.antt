-- `saved_salvage::replace::put_body` meets its contract. Assumes nothing.
use native.Mathlib.Omega.{arith}
use Prim.Native.Nat.{ℕ, ◌+◌, ◌-◌}
use mathlib.Core.Path.{◌≡◌, sym, ap, ◌∙◌}
use lib.ListN.{length, take, drop, length-take, length-drop, replicate}
use Rattle.saved_bytes.specs.inner.Put.{put_at}
use Rattle.saved_salvage.proofs.replace.put_body.Goals as goal

pub put_bytes-requires : goal.put_bytes-requires
put_bytes-requires c = simp (length-take, length-drop) (omega arith)

pub returns-then-kept : goal.returns-then-kept
returns-then-kept c = let a = c.args in
    let n : a.at + a.size - a.at ≡ a.size = omega arith in
    rw (c.if-kept.true) (c.put_bytes.ensures ∙ ap (λ
    (k : ℕ). put_at a.output.now a.at (take k (drop a.at a.file.now))) n)

pub returns : goal.returns
returns c = let a = c.args in
    let n : length (take a.size (drop a.at a.file.now)) ≡ a.size = simp (length-take, length-drop) (omega arith) in
    rw (c.if-kept.false) (c.put_zeros.ensures ∙ ap (λ (k : ℕ). put_at
    a.output.now a.at (replicate k 0)) (sym n))
