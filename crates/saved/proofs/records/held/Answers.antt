-- `saved::records::held` meets its contract. Assumes nothing.
use native.Mathlib.Omega.{arith}
use Prim.Native.Nat.{◌+◌, ◌-◌}
use mathlib.Core.List.{List}
use Prim.Native.Nat.{ℕ}
use mathlib.Core.Path.{refl, ap, ◌∙◌}
use Rattle.bus_timer.specs.declared.TimerLines.{TimerLines}
use Rattle.saved_layout.specs.File.{bodies_in}
use Rattle.saved_kinds.specs.Kinds.{general_from, rest_from}
use Rattle.saved_layout.proofs.Positions.{length-is}
use Rattle.saved_layout.proofs.Written.{processor-part}
use Rattle.saved.specs.Body.{restored_processor_of, processor_in_bodies}
use Rattle.saved.proofs.records.held.Goals as goal

pub slice_bounds-processor-end : goal.slice_bounds-processor-end
slice_bounds-processor-end c = omega (arith, length-is (c.args.form) (c.args.pak))

pub returns : goal.returns
unfolding processor_in_bodies
returns c =
    let c3 = c in
    let c5 = c3 in
    let file = c5.args.file.now in
    let form = c5.args.form in
    let pak = c5.args.pak in
    c.processor.ensures ∙ (ap (λ (xs : List ℕ). restored_processor_of (general_from xs) (rest_from xs)
    c.hardware.result) (processor-part form pak c3.first-at.result file c3.first-at.ensures.0
    c3.first-at.result (c3.first-at.result + 172 - c3.first-at.result) refl (omega arith)) ∙ ap
    (λ (h : TimerLines). restored_processor_of (general_from (bodies_in form pak file).processor)
    (rest_from (bodies_in form pak file).processor) h) c.hardware.ensures)
