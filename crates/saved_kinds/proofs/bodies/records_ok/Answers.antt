-- `saved_kinds::bodies::records_ok` meets its contract. Assumes nothing.
use native.Mathlib.Omega.{arith}
use Prim.Native.Nat.{ℕ, ◌+◌, ◌-◌}
use mathlib.Core.Bool.{false}
use mathlib.Core.Path.{◌≡◌, sym, ap, ◌∙◌}
use lib.ListN.{take, drop}
use Rattle.word.proofs.Choices.{pick_true, pick-false}
use Rattle.saved_kinds.specs.Kinds.{processor_body_ok, drawing_body_ok}
use Rattle.saved_kinds.proofs.bodies.records_ok.Goals as goal

pub returns-then-not-processor_ok : goal.returns-then-not-processor_ok
returns-then-not-processor_ok c = let a = c.args in
    let n : a.at + 172 - a.at ≡ 172 = omega arith in
    pick-false (processor_body_ok (take 172 (drop a.at a.file.now))) _ false (ap (λ (k : ℕ). processor_body_ok (take k
    (drop a.at a.file.now))) (sym n) ∙ (sym (c.processor_ok.ensures) ∙ (c.if-not-processor_ok.true)))

pub returns : goal.returns
returns c =
    let a = c.args in
    let n : a.at + 172 - a.at ≡ 172 = omega arith in let m : a.at + 198 - (a.at + 172) ≡ 26 = omega arith in
    c.drawing_ok.ensures ∙ (ap (λ (k : ℕ). drawing_body_ok (take k (drop (a.at + 172) a.file.now))) m ∙
    pick_true (processor_body_ok (take 172 (drop a.at a.file.now))) _ false
    (ap (λ (k : ℕ). processor_body_ok (take k (drop a.at a.file.now))) (sym n) ∙
    (sym c.processor_ok.ensures ∙ c.if-not-processor_ok.false)))
