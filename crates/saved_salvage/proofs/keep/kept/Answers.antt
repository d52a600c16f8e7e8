-- `saved_salvage::keep::kept` meets its contract. Assumes nothing.
use native.Mathlib.Omega.{arith}
use Prim.Native.Nat.{◌+◌, ◌-◌}
use mathlib.Core.Bool.{true}
use mathlib.Core.Path.{refl, ap, ◌∙◌}
use Rattle.word.specs.LittleEndian.{word_at}
use Rattle.saved_layout.specs.File.{bodies_in}
use Rattle.saved_layout.specs.declared.Form.TheVariants.{Two}
use Rattle.saved_layout.proofs.Positions.{length-is, first_small}
use Rattle.saved_layout.proofs.Written.{processor-part, drawing-part, hardware-part}
use Rattle.saved_kinds.specs.Kinds.{processor_body_ok, drawing_body_ok, hardware_body_ok}
use Rattle.saved_salvage.proofs.Keeping.{keeps-is, sum-1, sum-2, sum-3, sum-4, sum-5, sum-6, kept-empty, kept-some}
use Rattle.saved_salvage.proofs.keep.kept.Goals as goal

pub word_at-requires : goal.word_at-requires
word_at-requires c = omega (arith, length-is Two (c.args.pak), first_small Two (c.args.pak))

pub slice_bounds-processor_ok-end : goal.slice_bounds-processor_ok-end
slice_bounds-processor_ok-end c =
    let c4 = c in
    omega (arith, length-is Two c4.args.pak, first_small Two c4.args.pak)

pub word_at-requires-2 : goal.word_at-requires-2
word_at-requires-2 c =
    let c7 = c in
    omega (arith, length-is Two c7.args.pak, first_small Two c7.args.pak)

pub slice_bounds-drawing_ok-end : goal.slice_bounds-drawing_ok-end
slice_bounds-drawing_ok-end c =
    let c8 = c in
    omega (arith, length-is Two c8.args.pak, first_small Two c8.args.pak)

pub word_at-requires-3 : goal.word_at-requires-3
word_at-requires-3 c =
    let c11 = c in
    omega (arith, length-is Two c11.args.pak, first_small Two c11.args.pak)

pub word_at-requires-4 : goal.word_at-requires-4
word_at-requires-4 c =
    let c13 = c
    in
    omega (arith, length-is Two c13.args.pak, first_small Two c13.args.pak)

pub slice_bounds-hardware_ok-end : goal.slice_bounds-hardware_ok-end
slice_bounds-hardware_ok-end c =
    let c15 = c in
    omega (arith, length-is Two c15.args.pak, first_small Two c15.args.pak)

pub word_at-requires-then-pak-eq0 : goal.word_at-requires-then-pak-eq0
word_at-requires-then-pak-eq0 c =
    let c18 = c in
    omega (arith, length-is Two c18.args.pak, first_small Two c18.args.pak)

pub returns-then-pak-eq0 : goal.returns-then-pak-eq0
returns-then-pak-eq0 c =
    let c8 = c in
    let c9 = c8 in
    let c10 = c9 in
    let c12 = c10 in
    let c13 = c12 in
    let c14 = c13 in
    let c16 = c14 in
    let c17 = c16 in
    let c18 = c17 in
    let c20 = c18 in
    let file = c20.args.file.now in
    let pak = c20.args.pak in
    kept-empty pak file (keeps-is (word_at file 16) (bodies_in Two pak file).processor
    (processor_body_ok (bodies_in Two pak file).processor) c13.keeps-processor.ensures c16.word_at.ensures
    (sum-1 _ (bodies_in Two pak file) c18.sums-sums.ensures)
    (c14.processor_ok.ensures ∙ ap processor_body_ok (processor-part Two pak c17.first-start.result file
    c17.first-start.ensures.0 c17.first-start.result (c17.first-start.result + 172 - c17.first-start.result) refl
    (omega arith)))) (keeps-is (word_at file 30) (bodies_in Two pak file).drawing
    (drawing_body_ok (bodies_in Two pak file).drawing) c9.keeps-drawing.ensures c12.word_at-2.ensures
    (sum-2 _ (bodies_in Two pak file) c18.sums-sums.ensures)
    (c10.drawing_ok.ensures ∙ ap drawing_body_ok (drawing-part Two pak c17.first-start.result file
    c17.first-start.ensures.0 (c17.first-start.result + 172) (c17.first-start.result + 198 - (c17.first-start.result + 172))
    refl (omega arith)))) (keeps-is (word_at file 44) (bodies_in Two pak file).wram true
    c.keeps-wram.ensures c8.word_at-3.ensures
    (sum-3 _ (bodies_in Two pak file) c18.sums-sums.ensures) refl)
    (keeps-is (word_at file 58) (bodies_in Two pak file).vram true
    c.keeps-vram.ensures
    c.word_at-4.ensures
    (sum-4 _ (bodies_in Two pak file) c18.sums-sums.ensures) refl) c.if-pak-eq0.true
    (keeps-is (word_at file 72) (bodies_in Two pak file).hardware (hardware_body_ok (bodies_in Two pak file).hardware)
    c.keeps.ensures c.word_at-then-pak-eq0.ensures (sum-6 _ (bodies_in Two pak file) c18.sums-sums.ensures)
    (c.hardware_ok-made.ensures ∙ ap hardware_body_ok
    (hardware-part pak c17.first-start.result file c17.first-start.ensures.0 (c17.first-start.result + 327878 + pak)
    (c17.first-start.result + 327878 + pak + 8 - (c17.first-start.result + 327878 + pak)) refl (omega arith))))

pub word_at-requires-5 : goal.word_at-requires-5
word_at-requires-5 c =
    let c18 = c in
    omega (arith, length-is Two c18.args.pak, first_small Two c18.args.pak)

pub word_at-requires-6 : goal.word_at-requires-6
word_at-requires-6 c =
    let c20 = c in
    omega (arith, length-is Two c20.args.pak, first_small Two c20.args.pak)

pub returns : goal.returns
returns c =
    let c8 = c in
    let c9 = c8 in
    let c10 = c9 in
    let c11 = c10 in
    let c12 = c11 in
    let c14 = c12 in
    let c15 = c14 in
    let c16 = c15 in
    let c18 = c16 in
    let c19 = c18 in
    let c20 = c19 in
    let c22 = c20 in
    let file = c22.args.file.now in
    let pak = c22.args.pak in
    kept-some pak file (keeps-is (word_at file 16) (bodies_in Two pak file).processor
    (processor_body_ok (bodies_in Two pak file).processor) c15.keeps-processor.ensures c18.word_at.ensures
    (sum-1 _ (bodies_in Two pak file) c20.sums-sums.ensures)
    (c16.processor_ok.ensures ∙ ap processor_body_ok (processor-part Two pak c19.first-start.result file
    c19.first-start.ensures.0 c19.first-start.result (c19.first-start.result + 172 - c19.first-start.result) refl
    (omega arith)))) (keeps-is (word_at file 30) (bodies_in Two pak file).drawing
    (drawing_body_ok (bodies_in Two pak file).drawing) c11.keeps-drawing.ensures c14.word_at-2.ensures
    (sum-2 _ (bodies_in Two pak file) c20.sums-sums.ensures)
    (c12.drawing_ok.ensures ∙ ap drawing_body_ok (drawing-part Two pak c19.first-start.result file
    c19.first-start.ensures.0 (c19.first-start.result + 172) (c19.first-start.result + 198 - (c19.first-start.result + 172))
    refl (omega arith)))) (keeps-is (word_at file 44) (bodies_in Two pak file).wram true c9.keeps-wram.ensures
    c10.word_at-3.ensures (sum-3 _ (bodies_in Two pak file) c20.sums-sums.ensures) refl)
    (keeps-is (word_at file 58) (bodies_in Two pak file).vram true
    c.keeps-vram.ensures c8.word_at-4.ensures
    (sum-4 _ (bodies_in Two pak file) c20.sums-sums.ensures) refl)
    (omega (arith, c.if-pak-eq0.false))
    (keeps-is (word_at file 72) (bodies_in Two pak file).pak true c.keeps-2.ensures
    c.word_at-5.ensures (sum-5 _ (bodies_in Two pak file) c20.sums-sums.ensures) refl)
    (keeps-is (word_at file 86) (bodies_in Two pak file).hardware (hardware_body_ok (bodies_in Two pak file).hardware)
    c.keeps-3.ensures c.word_at-6.ensures (sum-6 _ (bodies_in Two pak file) c20.sums-sums.ensures)
    (c.hardware_ok-made.ensures ∙ ap hardware_body_ok
    (hardware-part pak c19.first-start.result file c19.first-start.ensures.0 (c19.first-start.result + 327878 + pak)
    (c19.first-start.result + 327878 + pak + 8 - (c19.first-start.result + 327878 + pak)) refl (omega arith))))
